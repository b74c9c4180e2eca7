-- `left_apart` meets its contract: the field's digit at the yes part is the field's flag there.
use Rattle.std.proofs.Common.{◌∙◌, ap, not}
use Rattle.normal_form.specs.Check.{left_apart}
use Rattle.normal_form.specs.Table.{entry_count, entry, asks}
use Rattle.checking.proofs.FieldSets.{sets_are_flags}
use Rattle.checking.proofs.diagram.Diagram.left_apart.Goals as goal

pub returns : goal.returns
unfolding left_apart
returns c =
    let t = c.args.self.table.words.now in
    let e = entry t c.args.i in
    ap not (c.has_field.ensures ∙ rw (c.requires.named, c.equation_of.ensures, c.wide.ensures, c.entry-e.ensures.is)
    (sets_are_flags t (asks e).left.field.0 (entry_count t) e.yes c.args.self.table.few))

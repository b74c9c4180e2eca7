-- Definitions that are opened together where the check of a table is computed.
use Rattle.normal_form.specs.Check.{shape_kept, terms_kept, handles_lower, same_entry, entries_differ, all_reachable, parts_ordered, left_apart, no_rule_applies, check_diagram, check_entries, check}
use Rattle.normal_form.specs.Named.{named}
use Rattle.normal_form.specs.Reachable.{mark_parts, marks_down, reachable}

unfoldable pub checking_computes : Type 0
unfolding shape_kept terms_kept handles_lower same_entry entries_differ all_reachable parts_ordered left_apart no_rule_applies
    check_diagram check_entries check named mark_parts marks_down reachable
checking_computes = Unit {0}

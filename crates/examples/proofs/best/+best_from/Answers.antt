-- `best_from` meets its contract: on each way it goes on with a smaller handle, and what it finds is what the definition says at its entry,
-- in whichever order the parts are sought.
use Prim.Native.Nat.{ℕ, ◌-◌}
use mathlib.Core.Path.{◌≡◌}
use mathlib.Core.Logic.{◌≢◌}
use mathlib.Core.List.{List}
use Rattle.examples.specs.Needs.{CanSeek}
use Rattle.facts.specs.declared.record.Facts.{Facts}
use Rattle.store.specs.declared.entries.Entry.{Entry}
use Rattle.store.specs.Layout.{question, entry, leaves}
use Rattle.terms.specs.declared.term.Equation.{Equation}
use borrow.Author.Rules.{rules}
use Rattle.examples.proofs.BestLaws.{has_least, never_best, always_best, beaten_best}
use Rattle.examples.proofs.SeekLaws.{seek_entry, seek_listed, seek_ask, Sought, small_asked, room_for_no, yes_falls, no_falls, skip_yes, skip_no, go_yes, go_no, best_always, best_never, best_open, best_open_turned}
use Rattle.examples.proofs.best.+best_from.Goals as goal

-- ---- at the question
sought : {s : List ℕ} {handle : ℕ} {f : Facts} {n y m number : ℕ} {here : Entry} {q : Equation} → CanSeek s handle f n
    → handle ≢ 0 → handle ≢ 1 → here ≡ entry s (handle - leaves) → y ≡ here.yes → m ≡ here.no → number ≡ here.question
    → q ≡ question s number → Sought s handle f n y m q
sought {number = number} {here = here} can never always here_is yes_is no_is number_is question_is = record {
  can = can;
  not_never = never;
  not_always = always;
  here = here;
  here_is = here_is;
  yes_is = yes_is;
  no_is = no_is;
  number = number;
  number_is = number_is;
  question_is = question_is;
}

pub is_beaten-requires : goal.is_beaten-requires
is_beaten-requires t c = search (rules, has_least)

pub returns-then-is_beaten : goal.returns-then-is_beaten
returns-then-is_beaten t c = search (rules, beaten_best)

pub returns-then-handle-eq0 : goal.returns-then-handle-eq0
returns-then-handle-eq0 t c = search (rules, never_best)

pub least_sheet-requires : goal.least_sheet-requires
least_sheet-requires t c = search (rules, has_least)

pub returns-then-handle-eq1 : goal.returns-then-handle-eq1
returns-then-handle-eq1 t c = search (rules, always_best)

pub entry_of-e-requires : goal.entry_of-e-requires
entry_of-e-requires t c = search (rules, seek_entry)

pub question_at-q-requires : goal.question_at-q-requires
question_at-q-requires t c = search (rules, seek_listed)

pub ask-requires : goal.ask-requires
ask-requires t c = search (rules, seek_ask)

pub best_from-requires : goal.best_from-requires
best_from-requires t c =
    let x =
    sought c.requires c.if-handle-eq0.false c.if-handle-eq1.false c.entry_of-e.ensures c.wide-yes_part.ensures c.wide-no_part.ensures c.wide.ensures c.question_at-q.ensures in
    (yes_falls x c.decreases, skip_yes x)

pub best_from-requires-in-Never : goal.best_from-requires-in-Never
best_from-requires-in-Never t c =
    let x =
    sought c.requires c.if-handle-eq0.false c.if-handle-eq1.false c.entry_of-e.ensures c.wide-yes_part.ensures c.wide-no_part.ensures c.wide.ensures c.question_at-q.ensures in
    (no_falls x c.decreases, skip_no x)

pub no-other-requires : goal.no-other-requires
no-other-requires t c =
    let x =
    sought c.requires c.if-handle-eq0.false c.if-handle-eq1.false c.entry_of-e.ensures c.wide-yes_part.ensures c.wide-no_part.ensures c.wide.ensures c.question_at-q.ensures in
    record { small = small_asked x; noes_lt_most_noes = room_for_no x }

pub least_sheet-requires-in-Open : goal.least_sheet-requires-in-Open
least_sheet-requires-in-Open t c =
    let x =
    sought c.requires c.if-handle-eq0.false c.if-handle-eq1.false c.entry_of-e.ensures c.wide-yes_part.ensures c.wide-no_part.ensures c.wide.ensures c.question_at-q.ensures in
    has_least (go_no x c.in-Open.ensures c.no-other.ensures)

pub least_sheet-requires-in-Open-2 : goal.least_sheet-requires-in-Open-2
least_sheet-requires-in-Open-2 t c =
    let x =
    sought c.requires c.if-handle-eq0.false c.if-handle-eq1.false c.entry_of-e.ensures c.wide-yes_part.ensures c.wide-no_part.ensures c.wide.ensures c.question_at-q.ensures in
    has_least (go_yes x c.in-Open.ensures)

pub best_from-first-requires : goal.best_from-first-requires
best_from-first-requires t c =
    let x =
    sought c.requires c.if-handle-eq0.false c.if-handle-eq1.false c.entry_of-e.ensures c.wide-yes_part.ensures c.wide-no_part.ensures c.wide.ensures c.question_at-q.ensures in
    (no_falls x c.decreases, go_no x c.in-Open.ensures c.no-other.ensures)

pub best_from-requires-then-is_before : goal.best_from-requires-then-is_before
best_from-requires-then-is_before t c =
    let x =
    sought c.requires c.if-handle-eq0.false c.if-handle-eq1.false c.entry_of-e.ensures c.wide-yes_part.ensures c.wide-no_part.ensures c.wide.ensures c.question_at-q.ensures in
    (yes_falls x c.decreases, go_yes x c.in-Open.ensures)

pub returns-then-is_before : goal.returns-then-is_before
returns-then-is_before t c =
    let x =
    sought c.requires c.if-handle-eq0.false c.if-handle-eq1.false c.entry_of-e.ensures c.wide-yes_part.ensures c.wide-no_part.ensures c.wide.ensures c.question_at-q.ensures in
    best_open_turned x c.in-Open.ensures c.no-other.result c.no-other.ensures c.args.best c.best_from-first.ensures c.best_from-then-is_before.ensures

pub best_from-first-requires-in-Open : goal.best_from-first-requires-in-Open
best_from-first-requires-in-Open t c =
    let x =
    sought c.requires c.if-handle-eq0.false c.if-handle-eq1.false c.entry_of-e.ensures c.wide-yes_part.ensures c.wide-no_part.ensures c.wide.ensures c.question_at-q.ensures in
    (yes_falls x c.decreases, go_yes x c.in-Open.ensures)

pub best_from-requires-in-Open : goal.best_from-requires-in-Open
best_from-requires-in-Open t c =
    let x =
    sought c.requires c.if-handle-eq0.false c.if-handle-eq1.false c.entry_of-e.ensures c.wide-yes_part.ensures c.wide-no_part.ensures c.wide.ensures c.question_at-q.ensures in
    (no_falls x c.decreases, go_no x c.in-Open.ensures c.no-other.ensures)

pub returns-in-Always : goal.returns-in-Always
returns-in-Always t c =
    let x =
    sought c.requires c.if-handle-eq0.false c.if-handle-eq1.false c.entry_of-e.ensures c.wide-yes_part.ensures c.wide-no_part.ensures c.wide.ensures c.question_at-q.ensures in
    best_always x c.in-Always.ensures _ c.best_from.ensures

pub returns-in-Never : goal.returns-in-Never
returns-in-Never t c =
    let x =
    sought c.requires c.if-handle-eq0.false c.if-handle-eq1.false c.entry_of-e.ensures c.wide-yes_part.ensures c.wide-no_part.ensures c.wide.ensures c.question_at-q.ensures in
    best_never x c.in-Never.ensures _ c.best_from-in-Never.ensures

pub returns-else-is_before : goal.returns-else-is_before
returns-else-is_before t c =
    let x =
    sought c.requires c.if-handle-eq0.false c.if-handle-eq1.false c.entry_of-e.ensures c.wide-yes_part.ensures c.wide-no_part.ensures c.wide.ensures c.question_at-q.ensures in
    best_open x c.in-Open.ensures c.no-other.result c.no-other.ensures _ c.best_from-first-in-Open.ensures c.best_from-in-Open.ensures

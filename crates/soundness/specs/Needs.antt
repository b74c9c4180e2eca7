-- What the code relies on, and no claim: the rules of a sound store as the code tests them apart.
use Rattle.std.specs.Prelude.{ℕ, ◌+◌, ◌*◌, Bool, not, ◌&&◌, List, eqb, leb, ltb, drop}
use Rattle.store.specs.declared.entries.Entry.{Entry}
use Rattle.store.specs.Layout.{entries_start, leaves}
use Rattle.store.specs.Sound.{all_below, all_zero, entry_sound, differ_below}

-- "each entry's question number is 1 to q, its handles are smaller than its own and differ"
unfoldable pub numbers_sound : ℕ → ℕ → Entry → Bool
numbers_sound questions i e =
    leb 1 e.question && leb e.question questions
    && ltb e.yes (i + leaves) && ltb e.no (i + leaves)
    && not (eqb e.yes e.no)

-- of so many entries: each keeps its rules, "no two entries are equal, and unused words are zero"
unfoldable pub body_sound : List ℕ → ℕ → Bool
body_sound s k = all_below k (entry_sound s) && differ_below s k && all_zero (drop (entries_start s + 3 * k) s)

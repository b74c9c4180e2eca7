-- What the code relies on, and no claim. The index: for each bucket the last entry in it, and for each entry the one before it in its
-- bucket. A link is one more than an entry's number, and 0 where there is none.
use Rattle.std.specs.Prelude.{ℕ, ◌+◌, ◌*◌, ◌/◌, ◌%◌, ◌≤◌, ◌<◌, ◌≡◌, Bool, true, cond, ltb, Option, Some, None, List, length, get_or}
use Rattle.index.specs.declared.chains.Index.{Index}
use Rattle.index.specs.Entries.{capacity, buckets, none_equal}
use Rattle.store.specs.declared.entries.Entry.{Entry}
use Rattle.store.specs.Entries.{first}
use Rattle.store.specs.Layout.{entries_start}

-- the first k entries of a store begin at the word `start` and lie within the words, and an index holds them
pub record EntriesFit (s : List ℕ) (start k : ℕ) : Type 0 where
  pub begin : start ≡ entries_start s
  pub within : start + 3 * k ≤ length s
  pub few : k ≤ capacity

-- the bucket of a store's entry: any function would do, and this one spreads ordinary entries well
unfoldable pub hash_of : Entry → ℕ
hash_of e = (e.question * 524114809 + e.yes * 1518500249 + e.no * 1859775393) / 1048576 % buckets

-- p is one more than the last number below k that f puts into b, or 0 where there is none
pub record Top (f : ℕ → ℕ) (b k p : ℕ) : Type 0 where
  pub low : p ≤ k
  pub here : (i : ℕ) → p ≡ i + 1 → f i ≡ b
  pub all : (j : ℕ) → j < k → f j ≡ b → j < p

-- the numbers below k are linked, each in the chain of its bucket; there are n buckets, and m numbers at most
pub record Chains (n m : ℕ) (f : ℕ → ℕ) (k : ℕ) (lasts links : List ℕ) : Type 0 where
  pub buckets : length lasts ≡ n
  pub room : length links ≡ m
  pub last : (b : ℕ) → b < n → Top f b k (get_or lasts b 0)
  pub next : (i : ℕ) → i < k → Top f (f i) i (get_or links i 0)

-- the entries that are counted are in the index, where f gives the bucket of each
pub record Holds (f : ℕ → ℕ) (x : Index) : Type 0 where
  pub chains : Chains buckets capacity f x.count x.lasts x.links

-- an index of no entries
pub record Empty (x : Index) : Type 0 where
  pub none : x.count ≡ 0
  pub holds : (f : ℕ → ℕ) → Holds f x

-- there is room for one entry more
pub record HasRoom (x : Index) : Type 0 where
  pub few : x.count < capacity

-- the entries in the index lie within the words, and no two of them are equal
pub record Searchable {A : Type 0} (fits : ℕ → Type 0) (entry : ℕ → A) (bucket : A → ℕ) (same : A → A → Bool) (x : Index) : Type 0 where
  pub fit : fits x.count
  pub differ : none_equal same entry x.count ≡ true
  pub index : Holds (λ i. bucket (entry i)) x

-- whether no two of the first k entries are equal, and then they can be found
pub record Loaded {A : Type 0} (r : Bool) (fits : ℕ → Type 0) (entry : ℕ → A) (bucket : A → ℕ) (same : A → A → Bool) (k : ℕ) (x : Index) : Type 0 where
  pub all : r ≡ true → x.count ≡ k
  pub ready : r ≡ true → Searchable fits entry bucket same x

-- of the first k entries, the number of the first that is e
abbrev pub found : {A : Type 0} → (ℕ → A) → (A → A → Bool) → A → ℕ → Option ℕ
found entry same e k =
    let i = first (λ j. same (entry j) e) k 0 in
    cond (ltb i k) (Some i) None

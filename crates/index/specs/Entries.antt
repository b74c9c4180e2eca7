-- What an index asks of its entries: the laws of the trait `Indexed`.
use Rattle.std.specs.Prelude.{ℕ, ◌≤◌, ◌<◌, ◌≡◌, Bool, true, not, List}
use Rattle.store.specs.Sound.{all_below}
use Rattle.terms.specs.Limits.{most_entries}

-- how many entries an index holds, and over how many buckets it spreads them
abbrev pub capacity : ℕ
capacity = most_entries

abbrev pub buckets : ℕ
buckets = capacity

-- r is a bucket, and the one that is due
pub record Bucket (due r : ℕ) : Type 0 where
  pub is : r ≡ due
  pub low : r < buckets

-- no two of the first k entries are equal, where `same` tests that two are
abbrev pub none_equal : {A : Type 0} → (A → A → Bool) → (ℕ → A) → ℕ → Bool
none_equal same entry k = all_below k (λ i. all_below i (λ j. not (same (entry j) (entry i))))

pub record EntryLaws {A : Type 0} (fits : List ℕ → ℕ → ℕ → Type 0) (entry : List ℕ → ℕ → A) (differ : List ℕ → ℕ → Bool) (same eq : A → A → Bool) : Type 0 where
  pub few : (s : List ℕ) (start k : ℕ) → fits s start k → k ≤ capacity
  pub less : (s : List ℕ) (start j k : ℕ) → j ≤ k → fits s start k → fits s start j
  pub same_says : (d e : A) → same d e ≡ true → d ≡ e
  pub eq_is : (d e : A) → eq d e ≡ same d e
  pub differ_is : (s : List ℕ) (k : ℕ) → differ s k ≡ none_equal same (entry s) k

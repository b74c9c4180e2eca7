-- A list of calls on one store of which each is made within limits of its own: the logger's builds, and the institute's calls on the logger's store.
use Rattle.std.specs.Prelude.{◌⊎◌, List, [], ◌∷◌}
use Rattle.std.proofs.Common.{inl, inr}
use Rattle.logger.specs.SmallerLimits.{Smaller}
use Rattle.operations.specs.Handles.{Call, Books, after}
use Rattle.terms.specs.declared.limits.Limits.{Limits}
use Rattle.terms.specs.Limits.{store_limits, logger_limits}

pub record CallWithin : Type 0 where
  pub limits : Limits
  pub call : Call

abbrev pub within : Limits → Call → CallWithin
within limits c = record { limits = limits; call = c }

-- a call of the logger's, or of the institute's
abbrev pub by_either : Call ⊎ Call → CallWithin
by_either (inl c) = within logger_limits c
by_either (inr c) = within store_limits c

-- the calls in turn, as in the handle law's run
unfoldable pub run_within : Books → List CallWithin → Books
run_within b [] = b
run_within b (c ∷ cs) = run_within (after c.limits b c.call) cs

-- the limits of each call are no larger than these
abbrev pub EachSmaller : Limits → List CallWithin → Type 0
EachSmaller larger [] = Unit {0}
EachSmaller larger (c ∷ cs) = Smaller c.limits larger × EachSmaller larger cs

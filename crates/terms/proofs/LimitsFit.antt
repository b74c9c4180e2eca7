-- The papers' limits are what the arrays are made for, and 16 × 1,024 is at most 65,535.
use mathlib.Core.Path.{◌≡◌}
use native.Mathlib.Omega.{arith}
use Rattle.terms.specs.declared.limits.Limits.{Limits}
use Rattle.terms.specs.Limits.{store_limits, logger_limits}
use Rattle.terms.specs.Needs.{FitLimits}

pub store_limits_fit : FitLimits store_limits
store_limits_fit = record { fields_fit = omega arith; questions_fit = omega arith; entries_fit = omega arith; counts_fit = omega arith }

pub limits_fit : {limits : Limits} → limits ≡ store_limits → FitLimits limits
limits_fit e = rw e store_limits_fit

pub logger_limits_fit : FitLimits logger_limits
logger_limits_fit = record { fields_fit = omega arith; questions_fit = omega arith; entries_fit = omega arith; counts_fit = omega arith }

pub logger_fits : {limits : Limits} → limits ≡ logger_limits → FitLimits limits
logger_fits e = rw e logger_limits_fit

-- What no count of an example exceeds in any store that is sound within limits: document 02 (viii), "the example bound reaches 16 × 1,024 = 16,384".
use Rattle.std.specs.Prelude.{ℕ, ◌+◌, ◌*◌}
use Rattle.terms.specs.declared.limits.TermLimits.{TermLimits}

-- "n × (K + 1)" for the largest n and the largest K
abbrev pub count_bound : TermLimits → ℕ
count_bound limits = limits.field.0 * (limits.steps.0 + 1)

-- The answers to a list of calls, one after the other.
use Rattle.std.specs.Prelude.{Bool, List, [], ◌∷◌, eqb}
use Rattle.operations.specs.Built.{Built, built_number}
use Rattle.operations.specs.Handles.{Call, answer_to, Books, after}
use Rattle.terms.specs.declared.limits.Limits.{Limits}

-- each call is answered on the words that the run of those before it has left
unfoldable pub answers_to : Limits → Books → List Call → List Built
answers_to limits b [] = []
answers_to limits b (c ∷ cs) = (answer_to limits b.words c).answer ∷ answers_to limits (after limits b c) cs

-- "Number 0 is success."
unfoldable pub was_accepted : Built → Bool
was_accepted a = eqb (built_number a) 0

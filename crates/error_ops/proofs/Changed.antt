-- Changes one after the other.
use Rattle.std.proofs.Common.{◌≡◌, List, [], ◌∷◌, ◌++◌, refl}
use Rattle.ps_memory.specs.Tree.{Change, action_of}
use Rattle.ps_meaning.specs.Answer.{Log, acted_in, changed_in}

pub changed_on : (log : Log) (ws vs : List Change) → changed_in log (ws ++ vs) ≡ changed_in (changed_in log ws) vs
changed_on log [] vs = refl
changed_on log (w ∷ ws) vs = changed_on (acted_in log (action_of w)) ws vs

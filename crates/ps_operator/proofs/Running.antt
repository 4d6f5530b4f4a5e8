-- The operators of a crate are lawful where each is.
use Rattle.std.proofs.Common.{ℕ, Bool, true, false, cond, nat_eq, List, [], ◌∷◌, ◌++◌}
use Rattle.ps_kinds.specs.declared.state.State.{State}
use Rattle.ps_meaning.specs.Ready.{Fits}
use Rattle.ps_meaning.specs.Sound.{World}
use Rattle.ps_operator.specs.Lawful.{Keeps, IsLawful}
use Rattle.ps_operator.specs.Operators.{Operators, run_in, AreLawful}

infixr 5 ◌▹◌
-- one law and those of the operators behind it
pub ◌▹◌ : {P Q : Type 0} → P → Q → P × Q
p ▹ q = (p, q)

pub all_lawful : (ts : Operators) → AreLawful ts → (n : ℕ) → IsLawful (run_in ts n)
all_lawful [] h n = λ text s W f. record { lawful = tt }
all_lawful (t ∷ ts) h n = λ text s W f. go (nat_eq n t.0) text s W (h.0 text s W f) (all_lawful ts h.1 n text s W f)
  where
    go : (b : Bool) (text : List ℕ) (s : State) (W : World) → Keeps text 4 s.frames (t.1 s) s W → Keeps text 4 s.frames (run_in ts n s) s W
        → Keeps text 4 s.frames (cond b (t.1 s) (run_in ts n s)) s W
    go true text s W x y = x
    go false text s W x y = y

-- the operators of two lists
pub both_lawful : (ts us : Operators) → AreLawful ts → AreLawful us → AreLawful (ts ++ us)
both_lawful [] us h g = g
both_lawful (t ∷ ts) us h g = (h.0, both_lawful ts us h.1 g)

-- Texts one after the other, and their last bytes.
use Rattle.std.proofs.Common.{◌≡◌, ℕ, suc, ◌+◌, ◌-◌, List, [], ◌∷◌, ◌++◌, length, Option, Some, None, slice_get, refl, sym, ap, ◌∙◌, subst, arith, append-nil, append_assoc, true, ◌==◌}
use native.Mathlib.Numerals.{unary_clauses}
use Rattle.ps_shapes.specs.Sheet.{Sheet}
use Rattle.ps_memory.specs.Memory.{Output, picture, message}
use Rattle.ps_machine.specs.Lines.{papers_of, messages_of, last_byte, last_after}

pub papers_joined : (a b : List Output) → papers_of (a ++ b) ≡ papers_of a ++ papers_of b
papers_joined [] b = refl
papers_joined (picture p ∷ a) b = ap (λ ps. p ∷ ps) (papers_joined a b)
papers_joined (message t ∷ a) b = papers_joined a b

pub messages_joined : (a b : List Output) → messages_of (a ++ b) ≡ messages_of a ++ messages_of b
messages_joined [] b = refl
messages_joined (picture p ∷ a) b = messages_joined a b
messages_joined (message t ∷ a) b = ap (λ s. t ++ s) (messages_joined a b) ∙ sym (append_assoc t (messages_of a) (messages_of b))

last_two : (b c : ℕ) (bs : List ℕ) → last_byte (b ∷ c ∷ bs) ≡ last_byte (c ∷ bs)
last_two b c bs = simp unary_clauses refl

-- the last byte of two texts
pub last_joined : (a b : List ℕ) → last_byte (a ++ b) ≡ last_after (last_byte a) b
last_joined [] [] = refl
last_joined [] (x ∷ b) = refl
last_joined (y ∷ []) [] = refl
last_joined (y ∷ []) (x ∷ b) = last_two y x b
last_joined (y ∷ z ∷ a) b = last_two y z (a ++ b) ∙ last_joined (z ∷ a) b ∙ sym (ap (λ l. last_after l b) (last_two y z a))

pub last_said : (text : List ℕ) (last : Option ℕ) (b : ℕ) → slice_get text (length text - 1) ≡ Some b → Some b ≡ last_after last text
last_said [] last b h = absurd (none h)
  where
    none : None ≡ Some b → ⊥
    none e = cc
last_said (x ∷ text) last b h = sym h

pub nothing_said : (text : List ℕ) → length text ≡ 0 → text ≡ []
nothing_said [] h = refl
nothing_said (x ∷ text) h = absurd (omega (arith, h))

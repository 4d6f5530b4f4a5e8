-- What the committer has to go on with.
use Rattle.std.specs.Prelude.{⊤}
use Rattle.worker_gate.specs.declared.shared.Next.{Next}
use Rattle.worker_gate.specs.declared.shared.Next.TheVariants.{Piece, Claimed, Changed}

-- a piece, where there is one, is right
abbrev pub IsRight : {C : Type 0} → (C → Type 0) → Next C → Type 0
IsRight Right (Piece piece) = Right piece
IsRight Right (Claimed page) = ⊤
IsRight Right Changed = ⊤

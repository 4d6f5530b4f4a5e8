-- Random numbers (section 8.2 of the language manual).
use Rattle.std.specs.Prelude.{ℕ, ℤ, pos, ◌*◌, ◌%◌, nat_eq, unsigned_abs, if◌then◌else◌}
use Rattle.std.specs.Prelude.{[], ◌∷◌, drop}
use Rattle.std.specs.Int.{int_rem_euclid}
use Rattle.ps_objects.specs.declared.object.Kind.TheVariants as kind
use Rattle.ps_objects.specs.declared.place.Loc.TheVariants as loc
use Rattle.ps_objects.specs.declared.place.Value.TheVariants as value
use Rattle.ps_objects.specs.Operands.{needed, room_for, integer_at}
use Rattle.ps_kinds.specs.declared.state.State.{State}
use Rattle.ps_memory.specs.Tree.{done, puts}
use Rattle.ps_operator.specs.Tree.{Ask, read}
use Rattle.ps_operator.specs.Looks.{look_rand}
use Rattle.ps_operator.specs.Registers.{ops, literal, with_ops, quiet, leaves}

-- the state after x; both lie from 1 to 2^31 - 2
abbrev pub next_rand : ℕ → ℕ
next_rand x = x * 16807 % 2147483647

-- the next state is stored and told
abbrev pub rand : State → Ask
rand s =
    read (room_for 1 (ops s)) (λ _.
    look_rand (λ x.
    done (puts loc.Rand (value.Rand (next_rand x)) ∷ [])
    (quiet (with_ops s (literal (kind.Integer (pos (next_rand x))) ∷ ops s)))))

-- 1 in the place of 0
abbrev pub or_one : ℕ → ℕ
or_one n = if nat_eq n 0 then 1 else n

-- the state that a program sets: its number modulo 2^31 - 1, and 1 for 0
abbrev pub seed_of : ℤ → ℕ
seed_of i = or_one (unsigned_abs (int_rem_euclid i (pos 2147483647)))

-- the state is stored, without a look at the old one
abbrev pub srand : State → Ask
srand s =
    read (needed 1 (ops s)) (λ _.
    read (integer_at 0 (ops s)) (λ i.
    done (puts loc.Rand (value.Rand (seed_of i)) ∷ []) (quiet (with_ops s (drop 1 (ops s))))))

-- the state is told
abbrev pub rrand : State → Ask
rrand s =
    read (room_for 1 (ops s)) (λ _.
    look_rand (λ x. leaves s (literal (kind.Integer (pos x)) ∷ ops s)))

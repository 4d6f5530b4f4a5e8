-- The operators on the operand stack (section 8.2 of the language manual).
use Rattle.std.specs.Prelude.{ℕ, ℤ, pos, negsuc, ◌+◌, ◌-◌, ◌%◌, [], ◌∷◌, length, drop}
use Rattle.std.specs.Prelude.{nat_eq, if◌then◌else◌}
use Rattle.ps_objects.specs.declared.object.Kind.TheVariants as kind
use Rattle.ps_objects.specs.Operands.{needed, room_for, object_at, integer_at}
use Rattle.copy_lists.specs.Turned.{rolled}
use Rattle.ps_kinds.specs.declared.state.State.{State}
use Rattle.ps_operator.specs.Tree.{Ask, read}
use Rattle.ps_operator.specs.Marks.{above_mark}
use Rattle.ps_operator.specs.Numbers.{natural_of}
use Rattle.ps_operator.specs.Registers.{ops, literal, leaves}

-- takes the newest away
abbrev pub pop : State → Ask
pop s = read (needed 1 (ops s)) (λ _. leaves s (drop 1 (ops s)))

-- exchanges the newest two
abbrev pub exch : State → Ask
exch s = read (needed 2 (ops s)) (λ _. leaves s (rolled 2 1 (ops s)))

-- the newest once more
abbrev pub dup : State → Ask
dup s =
    read (needed 1 (ops s)) (λ _.
    read (object_at 0 (ops s)) (λ x.
    read (room_for 1 (ops s)) (λ _.
    leaves s (x ∷ ops s))))

-- how many operands there are
abbrev pub count : State → Ask
count s =
    read (room_for 1 (ops s)) (λ _.
    leaves s (literal (kind.Integer (pos (length (ops s)))) ∷ ops s))

-- takes all away
abbrev pub clear : State → Ask
clear s = leaves s []

-- the operand that is so many below the newest but this number, once more
abbrev pub index : State → Ask
index s =
    read (needed 1 (ops s)) (λ _.
    read (integer_at 0 (ops s)) (λ i.
    read (natural_of i) (λ n.
    read (needed (n + 2) (ops s)) (λ _.
    read (object_at (n + 1) (ops s)) (λ x.
    leaves s (x ∷ drop 1 (ops s)))))))

-- j modulo n
abbrev pub modulo : ℤ → ℕ → ℕ
modulo (pos j) n = j % n
modulo (negsuc j) n = n - 1 - j % n

-- how many of n operands go below the others where they roll by j; of none, none
abbrev pub turn : ℤ → ℕ → ℕ
turn j n = if nat_eq n 0 then 0 else modulo j n

-- n operands roll by j: where j is positive, the newest j of them go below the others
abbrev pub roll : State → Ask
roll s =
    read (needed 2 (ops s)) (λ _.
    read (integer_at 0 (ops s)) (λ j.
    read (integer_at 1 (ops s)) (λ i.
    read (natural_of i) (λ n.
    read (needed (n + 2) (ops s)) (λ _.
    leaves s (rolled n (turn j n) (drop 2 (ops s))))))))

-- ---- marks

-- a new mark: what `mark`, `[` and `<<` do
abbrev pub mark : State → Ask
mark s = read (room_for 1 (ops s)) (λ _. leaves s (literal kind.Mark ∷ ops s))

-- takes the newest mark away, and all above it
abbrev pub cleartomark : State → Ask
cleartomark s = read (above_mark (ops s)) (λ n. leaves s (drop (n + 1) (ops s)))

-- how many operands lie above the newest mark
abbrev pub counttomark : State → Ask
counttomark s =
    read (above_mark (ops s)) (λ n.
    read (room_for 1 (ops s)) (λ _.
    leaves s (literal (kind.Integer (pos n)) ∷ ops s)))

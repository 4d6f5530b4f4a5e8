-- Arrays that are spread over the operand stack, and filled from it (section 8.2 of the language manual).
use Rattle.std.specs.Prelude.{ℕ, zero, suc, ◌+◌, List, ◌∷◌, drop, take}
use Rattle.ps_objects.specs.Operands.{needed, object_at, array_at, readable_at, writable_at}
use Rattle.ps_objects.specs.declared.object.Object.{Object}
use Rattle.ps_objects.specs.declared.objects.Interval.{Interval}
use Rattle.ps_kinds.specs.declared.state.State.{State}
use Rattle.ps_memory.specs.Tree.{Application, done}
use Rattle.ps_operator.specs.Tree.{Ask, read, look_then, found}
use Rattle.ps_operator.specs.Looks.{look_item}
use Rattle.ps_operator.specs.Registers.{ops, with_ops, quiet, leaves}
use Rattle.ps_operator.specs.Storing.{item_stores}
use Rattle.array_ops.specs.Intervals.{more_room}
use Rattle.array_ops.specs.Making.{taken, all_storable}

-- so many items from a place on, each looked at and pushed in its turn
abbrev pub pushed_from : Interval → ℕ → ℕ → List Object → Application (List Object)
pushed_from a at zero xs = found xs
pushed_from a at (suc n) xs = look_item a at (λ x. pushed_from a (at + 1) n (x ∷ xs))

-- a aload x .. a: all items, and the array
abbrev pub aload : State → Ask
aload s =
    read (needed 1 (ops s)) (λ _.
    read (array_at 0 (ops s)) (λ a.
    read (object_at 0 (ops s)) (λ x.
    read (readable_at 0 (ops s)) (λ _.
    read (more_room a.len (ops s)) (λ _.
    look_then (pushed_from a 0 a.len (drop 1 (ops s))) (λ xs.
    leaves s (x ∷ xs)))))))

-- x .. a astore a: as many operands as the array has items
abbrev pub astore : State → Ask
astore s =
    read (needed 1 (ops s)) (λ _.
    read (array_at 0 (ops s)) (λ a.
    read (object_at 0 (ops s)) (λ x.
    read (writable_at 0 (ops s)) (λ _.
    read (needed (a.len + 1) (ops s)) (λ _.
    read (all_storable a.cell (take a.len (drop 1 (ops s)))) (λ _.
    done (item_stores a 0 (taken 1 a.len (ops s)))
    (quiet (with_ops s (x ∷ drop (a.len + 1) (ops s))))))))))

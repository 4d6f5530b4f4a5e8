-- Operators that begin loops (section 8.2 of the language manual). Each call of the body is a step of the loop's frame.
use Rattle.std.specs.Prelude.{ℕ, pos, ◌*ℤ◌, Bool, true, false, ◌&&◌, List, [], ◌∷◌, ◌++◌, drop, Option, Some, None, Result, Ok, Err}
use Rattle.ps_names.specs.declared.error_name.ErrorName.{ErrorName}
use Rattle.ps_names.specs.declared.error_name.ErrorName.TheVariants.{TypeCheck}
use Rattle.ps_shapes.specs.declared.numbers.Real.{Real}
use Rattle.ps_objects.specs.Access.{read_right, run_right}
use Rattle.ps_objects.specs.Operands.{needed, object_at, integer_at, number_at, procedure_at, runnable_at}
use Rattle.ps_objects.specs.declared.cell.Cell.{Cell}
use Rattle.ps_objects.specs.declared.key.Key.{Key}
use Rattle.ps_objects.specs.declared.object.Kind.{Kind}
use Rattle.ps_objects.specs.declared.object.Kind.TheVariants as kind
use Rattle.ps_objects.specs.declared.object.Object.{Object}
use Rattle.ps_objects.specs.declared.objects.Number.{Number}
use Rattle.ps_objects.specs.declared.objects.Number.TheVariants as number
use Rattle.ps_kinds.specs.declared.frame.Frame.{Frame}
use Rattle.ps_kinds.specs.declared.frame.Frame.TheVariants as frame
use Rattle.ps_kinds.specs.declared.frame.Pair.{Pair}
use Rattle.ps_kinds.specs.declared.state.State.{State}
use Rattle.ps_memory.specs.Tree.{Application, done}
use Rattle.ps_operator.specs.Budgets.{frames_room}
use Rattle.ps_operator.specs.Looks.{look_access, look_entry, look_keys}
use Rattle.ps_operator.specs.Numbers.{natural_of}
use Rattle.ps_operator.specs.Registers.{ops, with_ops, begins}
use Rattle.ps_operator.specs.Tree.{Ask, read, look_then, found}
use Rattle.control_ops.specs.declared.walking.Walked.{Walked}
use Rattle.control_ops.specs.declared.walking.Walked.TheVariants as walked

-- n operands are taken away, and a loop begins
abbrev pub begins_loop : State → ℕ → Frame → Ask
begins_loop s n f =
    read (frames_room 1 s.frames) (λ _.
    done [] (begins (with_ops s (drop n (ops s))) f))

-- ---- repeat and loop

-- i p repeat: the procedure runs so many times
abbrev pub repeat : State → Ask
repeat s =
    read (needed 2 (ops s)) (λ _.
    read (procedure_at 0 (ops s)) (λ _.
    read (integer_at 1 (ops s)) (λ i.
    read (runnable_at 0 (ops s)) (λ _.
    read (natural_of i) (λ n.
    read (object_at 0 (ops s)) (λ body.
    begins_loop s 2 (frame.Repeat body n)))))))

-- p loop: the procedure runs again and again
abbrev pub loop_ : State → Ask
loop_ s =
    read (needed 1 (ops s)) (λ _.
    read (procedure_at 0 (ops s)) (λ _.
    read (runnable_at 0 (ops s)) (λ _.
    read (object_at 0 (ops s)) (λ body.
    begins_loop s 1 (frame.Loop body)))))

-- ---- for

-- the number as a real
abbrev pub as_real : Number → Real
as_real (number.Integer n) = record { count = n *ℤ pos 16777216 }
as_real (number.Real r) = r

-- whether a number is an integer
abbrev pub is_integer : Number → Bool
is_integer (number.Integer n) = true
is_integer (number.Real r) = false

-- the loop over the numbers from one on by an increment up to a limit
abbrev pub for_frame : Object → Number → Number → Number → Frame
for_frame body first increment limit =
    frame.For body (Some (as_real first)) (as_real increment) (as_real limit)
    (is_integer first && is_integer increment)

-- n n n p for: the procedure runs for each number from the first on, by the increment, up to the limit
abbrev pub for_ : State → Ask
for_ s =
    read (needed 4 (ops s)) (λ _.
    read (procedure_at 0 (ops s)) (λ _.
    read (number_at 1 (ops s)) (λ limit.
    read (number_at 2 (ops s)) (λ increment.
    read (number_at 3 (ops s)) (λ first.
    read (runnable_at 0 (ops s)) (λ _.
    read (object_at 0 (ops s)) (λ body.
    begins_loop s 4 (for_frame body first increment limit))))))))

-- ---- forall

-- what a walk goes over
abbrev pub walked_of : Kind → Result Walked ErrorName
walked_of (kind.Array part packed) = Ok walked.Items
walked_of (kind.Str part) = Ok walked.Bytes
walked_of (kind.Dict d) = Ok (walked.Pairs d)
walked_of _ = Err TypeCheck

-- the pairs that were seen, and that of a key, where an entry is there
abbrev pub with_pair : List Pair → Key → Option Object → List Pair
with_pair seen k None = seen
with_pair seen k (Some x) = seen ++ record { key = k; value = x } ∷ []

-- looks at the entries of these keys in their order, after the pairs that were seen
abbrev pub pairs_from : Cell → List Key → List Pair → Application (List Pair)
pairs_from d [] seen = found seen
pairs_from d (k ∷ ks) seen = look_entry d k (λ x. pairs_from d ks (with_pair seen k x))

-- over an array or a string, which is read as it stands at each step, or over the pairs of a dictionary, which are all looked at now
abbrev pub walk_over : State → Object → Object → Walked → Ask
walk_over s x body walked.Items =
    read (read_right x.access) (λ _.
    read (run_right body.access) (λ _.
    begins_loop s 2 (frame.Items x 0 body)))
walk_over s x body walked.Bytes =
    read (read_right x.access) (λ _.
    read (run_right body.access) (λ _.
    begins_loop s 2 (frame.Bytes x 0 body)))
walk_over s x body (walked.Pairs d) =
    look_access d (λ a.
    read (read_right a) (λ _.
    read (run_right body.access) (λ _.
    read (frames_room 1 s.frames) (λ _.
    look_keys d (λ ks.
    look_then (pairs_from d ks []) (λ ps.
    done [] (begins (with_ops s (drop 2 (ops s))) (frame.Pairs ps 0 body))))))))

-- a, s or d p forall: the procedure runs for each item, byte or pair
abbrev pub forall_ : State → Ask
forall_ s =
    read (needed 2 (ops s)) (λ _.
    read (procedure_at 0 (ops s)) (λ _.
    read (object_at 1 (ops s)) (λ x.
    read (walked_of x.kind) (λ w.
    read (object_at 0 (ops s)) (λ body.
    walk_over s x body w)))))

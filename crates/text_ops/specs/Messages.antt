-- Messages (section 8.2 of the language manual).
use Rattle.std.specs.Prelude.{ℕ, ◌+◌, List, [], ◌∷◌, ◌++◌, drop}
use Rattle.ps_objects.specs.Operands.{needed, object_at, string_at, readable_at}
use Rattle.ps_objects.specs.declared.object.Object.{Object}
use Rattle.ps_kinds.specs.declared.act.Act.TheVariants as act
use Rattle.ps_kinds.specs.declared.state.State.{State}
use Rattle.ps_memory.specs.Tree.{done}
use Rattle.ps_operator.specs.Tree.{Ask, read, look_then}
use Rattle.ps_operator.specs.Budgets.{message_room}
use Rattle.ps_operator.specs.Keys.{bytes_of, key_right_at}
use Rattle.ps_operator.specs.Registers.{ops, with_ops}
use Rattle.text_ops.specs.Plain.{plain_form, plain_length, plain_told}

-- ends with these operands and a message of n bytes
abbrev pub says : State → List Object → ℕ → List ℕ → Ask
says s xs n text = done []
    (record { state = record (with_ops s xs) { said = s.said + n }; frames = []; act = act.Say text })

-- string print
abbrev pub print : State → Ask
print s =
    read (needed 1 (ops s)) (λ _.
    read (string_at 0 (ops s)) (λ part.
    read (readable_at 0 (ops s)) (λ _.
    read (message_room s.kind s.said part.len) (λ _.
    look_then (bytes_of part) (λ text.
    says s (drop 1 (ops s)) part.len text)))))

-- any =: the plain text and a line end
abbrev pub equals_sign : State → Ask
equals_sign s =
    read (needed 1 (ops s)) (λ _.
    read (object_at 0 (ops s)) (λ x.
    read (key_right_at 0 (ops s)) (λ _.
    read (message_room s.kind s.said (plain_length (plain_form x.kind) + 1)) (λ _.
    look_then (plain_told (plain_form x.kind)) (λ text.
    says s (drop 1 (ops s)) (plain_length (plain_form x.kind) + 1) (text ++ 10 ∷ []))))))

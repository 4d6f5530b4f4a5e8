-- What was told one after the other was told together.
use Rattle.std.proofs.Common.{◌≡◌, ℕ, suc, List, [], ◌∷◌, ◌++◌, length, refl, sym, ap, ◌∙◌, append_assoc, arith}
use Rattle.std.specs.Prelude.{true, false, codes, reverse}
use Rattle.ps_names.specs.ErrorName.{bytes_of}
use Rattle.ps_names.specs.declared.error_name.ErrorName.{ErrorName}
use Rattle.ps_objects.specs.declared.cell.Cell.{Cell}
use Rattle.ps_objects.specs.declared.object.Kind.TheVariants as kind
use Rattle.ps_objects.specs.declared.object.Object.{Object}
use Rattle.ps_objects.specs.declared.objects.Interval.{Interval}
use Rattle.ps_objects.specs.declared.place.Shape.TheVariants as shape
use Rattle.ps_memory.specs.Memory.{fresh}
use Rattle.ps_memory.specs.Tree.{Change, puts, makes, opens, action_of}
use Rattle.ps_meaning.specs.Answer.{Log, acted_in, changed_in, names_taken}
use Rattle.ps_operator.specs.Registers.{literal}
use Rattle.ps_operator.proofs.StoreSteps.{items_take_none}
use Rattle.error_ops.specs.Recording.{dict_objects, array_for, stack_stores, stacks_told, told_under, error_told, recorded}
use Rattle.error_ops.proofs.Changed.{changed_on}

pub stacks_joined : (log one two three four : Log) (c d : Cell) (xs : List Object) (ds : List Cell) → one ≡ acted_in log (fresh c (shape.Array (length xs))) → two ≡ acted_in one (fresh d (shape.Array (length ds)))
    → three ≡ changed_in two (stack_stores (array_for c (length xs)) xs) → four ≡ changed_in three (stack_stores (array_for d (length ds)) (dict_objects ds)) → four ≡ changed_in log (stacks_told c d xs ds)
unfolding stacks_told
stacks_joined log one two three four c d xs ds p q r t =
    let a = stack_stores (array_for c (length xs)) xs in
    let b = stack_stores (array_for d (length ds)) (dict_objects ds) in
    t ∙ ap (λ l. changed_in l b) r ∙ sym (changed_on two a b) ∙ ap (λ l. changed_in l (a ++ b)) (q ∙ ap (λ l. acted_in l (fresh d (shape.Array (length ds)))) p)

pub error_joined : (log one two three four five : Log) (e : ErrorName) (x n y o d : Object) (a b : Interval)
    → n ≡ literal (kind.Boolean true) → y ≡ literal (kind.Name (bytes_of e)) → o ≡ literal (kind.Array a false) → d ≡ literal (kind.Array b false)
    → one ≡ acted_in log (action_of (told_under (codes "newerror") n)) → two ≡ acted_in one (action_of (told_under (codes "errorname") y)) → three ≡ acted_in two (action_of (told_under (codes "command") x))
    → four ≡ acted_in three (action_of (told_under (codes "ostack") o)) → five ≡ acted_in four (action_of (told_under (codes "dstack") d)) → five ≡ changed_in log (error_told e x a b)
unfolding error_told
error_joined log one two three four five e x n y o d a b hn hy ho hd p q r t u =
    let step : List ℕ → Object → Log → Log = λ name z l. acted_in l (action_of (told_under name z)) in
    let one_told : one ≡ step (codes "newerror") (literal (kind.Boolean true)) log = p ∙ ap (λ z. step (codes "newerror") z log) hn in
    let two_told : two ≡ step (codes "errorname") (literal (kind.Name (bytes_of e))) one = q ∙ ap (λ z. step (codes "errorname") z one) hy in
    let four_told : four ≡ step (codes "ostack") (literal (kind.Array a false)) three = t ∙ ap (λ z. step (codes "ostack") z three) ho in
    let five_told : five ≡ step (codes "dstack") (literal (kind.Array b false)) four = u ∙ ap (λ z. step (codes "dstack") z four) hd in
    five_told ∙ ap (step (codes "dstack") (literal (kind.Array b false))) (four_told ∙ ap (step (codes "ostack") (literal (kind.Array a false))) (r ∙ ap (step (codes "command") x) (two_told ∙ ap (step (codes "errorname") (literal (kind.Name (bytes_of e)))) one_told)))

pub record_joined : (log one two : Log) (e : ErrorName) (x : Object) (c d : Cell) (xs : List Object) (ds : List Cell) → one ≡ changed_in log (stacks_told c d xs ds)
    → two ≡ changed_in one (error_told e x (array_for c (length xs)) (array_for d (length ds))) → two ≡ changed_in log (recorded e x c d xs ds)
unfolding recorded
record_joined log one two e x c d xs ds p q =
    let b = error_told e x (array_for c (length xs)) (array_for d (length ds)) in
    q ∙ ap (λ l. changed_in l b) p ∙ sym (changed_on log (stacks_told c d xs ds) b)

-- ---- the names that are taken

names_joined : (ws vs : List Change) → names_taken ws ≡ 0 → names_taken (ws ++ vs) ≡ names_taken vs
names_joined [] vs e = refl
names_joined (puts l v ∷ ws) vs e = names_joined ws vs e
names_joined (makes c sh ∷ ws) vs e = absurd (omega (arith, e))
names_joined (opens s ∷ ws) vs e = absurd (omega (arith, e))

pub two_taken : (e : ErrorName) (x : Object) (c d : Cell) (xs : List Object) (ds : List Cell) → names_taken (recorded e x c d xs ds) ≡ 2
unfolding recorded stacks_told error_told
two_taken e x c d xs ds =
    let a = stack_stores (array_for c (length xs)) xs in
    let b = stack_stores (array_for d (length ds)) (dict_objects ds) in
    let t = error_told e x (array_for c (length xs)) (array_for d (length ds)) in
    ap (λ m. suc (suc m)) (ap names_taken (append_assoc a b t) ∙ names_joined a (b ++ t) (items_take_none (array_for c (length xs)) 0 (reverse xs)) ∙ names_joined b t (items_take_none (array_for d (length ds)) 0 (reverse (dict_objects ds))))

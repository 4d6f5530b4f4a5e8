-- Each operator keeps a state that fits: its tree again, with what fits beside each look and end.
use Rattle.std.proofs.Common.{◌≡◌, ℕ, zero, suc, ℤ, ◌+◌, ◌<◌, ◌&&◌, ◌||◌, nat_eq, pos, negsuc, unsigned_abs, List, [], ◌∷◌, drop, length, Bool, true, false, Option, Some, None, cond, not, slice_get, Result, Ok, Err, refl, subst, arith}
use Rattle.std.specs.Bool.{beq}
use Rattle.std.specs.Int.{w32, int_bit_and, int_bit_or, int_bit_xor, int_bit_not, int_rem_euclid}
use Rattle.std.proofs.lemmas.Bool.Decides.{nat_tests}
use Rattle.std.specs.List.{AllByRecursion}
use Rattle.std.specs.Cmp.Lexicographic.{pointwise, slice_cmp}
use Rattle.std.specs.Ordering.{nat_cmp, is_gt, is_ge, is_lt, is_le}
use Rattle.std.specs.declared.cmp.Ordering.{Ordering}
use Rattle.ps_names.specs.declared.error_name.ErrorName.{ErrorName}
use Rattle.ps_objects.specs.declared.object.Kind.{Kind}
use Rattle.ps_objects.specs.declared.object.Kind.TheVariants as kind
use Rattle.ps_objects.specs.declared.object.Object.{Object}
use Rattle.ps_objects.specs.declared.objects.Interval.{Interval}
use Rattle.ps_objects.specs.declared.objects.Number.{Number}
use Rattle.ps_objects.specs.declared.objects.Number.TheVariants as number
use Rattle.ps_objects.specs.Operands.{needed, room_for, object_at, integer_at, number_at, string_at, readable_at}
use Rattle.copy_lists.specs.Turned.{rolled}
use Rattle.ps_kinds.specs.declared.state.State.{State}
use Rattle.ps_objects.specs.Object.{cell_named}
use Rattle.ps_meaning.specs.Fits.{Shapes, FitsCell, FitsObject, takes}
use Rattle.ps_meaning.specs.Sound.{World}
use Rattle.ps_operator.specs.Tree.{Ask, read, look_then, found}
use Rattle.ps_operator.specs.Keys.{bytes_of, key_right_of}
use Rattle.ps_operator.specs.Lawful.{Keeps, IsLawful}
use Rattle.ps_operator.specs.Numbers.{natural_of}
use Rattle.ps_operator.specs.Registers.{ops, literal}
use Rattle.ps_operator.proofs.Fitting.{Fit, drop_fits, rolled_fits, object_fits, string_fits, string_kind}
use Rattle.ps_operator.proofs.Growing.{rand_stored_keeps}
use Rattle.ps_operator.proofs.Lawful.{AreBytes, read_keeps, rand_keeps, leaves_keeps}
use Rattle.ps_operator.proofs.Seeking.{Seeks, Any, found_seeks, read_seeks, then_seeks, seeks_any, bytes_seek, seeking_keeps}
use Rattle.ps_operator.proofs.Running.{◌▹◌, all_lawful}
use Rattle.stack_arith.specs.Stack.{pop, exch, dup, count, clear, index, turn, roll, mark, cleartomark, counttomark}
use Rattle.ps_operator.specs.Marks.{above_mark}
use Rattle.ps_operator.specs.Operators.{AreLawful}
use Rattle.stack_arith.specs.Numbers.{kind_of, of_one, of_two, of_integers}
use Rattle.stack_arith.specs.Arithmetic.{sum, difference, product, quotient, whole_quotient, remainder}
use Rattle.stack_arith.specs.Rounding.{magnitude, negative, rounded_up, rounded_down, rounded_to_nearest, without_fraction}
use Rattle.stack_arith.specs.Functions.{root, sine, cosine, angle}
use Rattle.stack_arith.specs.Random.{next_rand, rand, or_one, seed_of, srand, rrand}
use Rattle.stack_arith.specs.Comparison.{is_text, text_of, same, same_text, equal, equality, is_string, string_order, values_order, number_order, order, comparison}
use Rattle.stack_arith.specs.Bits.{joined, conjunction, disjunction, exclusion, of_kinds, opposite, not_, shifted}
use Rattle.stack_arith.specs.Operators.{operators, run}

-- ---- operands move

pop_keeps : IsLawful pop
pop_keeps text s W f =
    read_keeps (needed 1 (ops s)) (λ _ _.
    leaves_keeps f (drop 1 (ops s)) (drop_fits W.shapes 1 (ops s) f.state.registers.operands))

exch_keeps : IsLawful exch
exch_keeps text s W f =
    read_keeps (needed 2 (ops s)) (λ _ _.
    leaves_keeps f (rolled 2 1 (ops s)) (rolled_fits W.shapes 2 1 (ops s) f.state.registers.operands))

dup_keeps : IsLawful dup
dup_keeps text s W f =
    let o : Fit W.shapes (ops s) = f.state.registers.operands in
    read_keeps (needed 1 (ops s)) (λ _ _.
    read_keeps (object_at 0 (ops s)) (λ x e.
    read_keeps (room_for 1 (ops s)) (λ _ _.
    leaves_keeps f (x ∷ ops s) (object_fits W.shapes (ops s) 0 x o e, o))))

count_keeps : IsLawful count
count_keeps text s W f =
    read_keeps (room_for 1 (ops s)) (λ _ _.
    leaves_keeps f (literal (kind.Integer (pos (length (ops s)))) ∷ ops s) (tt, f.state.registers.operands))

clear_keeps : IsLawful clear
clear_keeps text s W f = leaves_keeps f [] tt

index_keeps : IsLawful index
index_keeps text s W f =
    let o : Fit W.shapes (ops s) = f.state.registers.operands in
    read_keeps (needed 1 (ops s)) (λ _ _.
    read_keeps (integer_at 0 (ops s)) (λ i _.
    read_keeps (natural_of i) (λ n _.
    read_keeps (needed (n + 2) (ops s)) (λ _ _.
    read_keeps (object_at (n + 1) (ops s)) (λ x e.
    leaves_keeps f (x ∷ drop 1 (ops s)) (object_fits W.shapes (ops s) (n + 1) x o e, drop_fits W.shapes 1 (ops s) o))))))

roll_keeps : IsLawful roll
roll_keeps text s W f =
    let o : Fit W.shapes (ops s) = f.state.registers.operands in
    read_keeps (needed 2 (ops s)) (λ _ _.
    read_keeps (integer_at 0 (ops s)) (λ j _.
    read_keeps (integer_at 1 (ops s)) (λ i _.
    read_keeps (natural_of i) (λ n _.
    read_keeps (needed (n + 2) (ops s)) (λ _ _.
    leaves_keeps f (rolled n (turn j n) (drop 2 (ops s))) (rolled_fits W.shapes n (turn j n) (drop 2 (ops s)) (drop_fits W.shapes 2 (ops s) o)))))))

mark_keeps : IsLawful mark
mark_keeps text s W f =
    read_keeps (room_for 1 (ops s)) (λ _ _. leaves_keeps f (literal kind.Mark ∷ ops s) (tt, f.state.registers.operands))

cleartomark_keeps : IsLawful cleartomark
cleartomark_keeps text s W f =
    read_keeps (above_mark (ops s)) (λ n _.
    leaves_keeps f (drop (n + 1) (ops s)) (drop_fits W.shapes (n + 1) (ops s) f.state.registers.operands))

counttomark_keeps : IsLawful counttomark
counttomark_keeps text s W f =
    read_keeps (above_mark (ops s)) (λ n _.
    read_keeps (room_for 1 (ops s)) (λ _ _.
    leaves_keeps f (literal (kind.Integer (pos n)) ∷ ops s) (tt, f.state.registers.operands)))

-- ---- numbers

number_fits : (K : Shapes) (r : Number) → FitsObject K (literal (kind_of r))
number_fits K (number.Integer n) = tt
number_fits K (number.Real r) = tt

one_keeps : (g : Number → Result Number ErrorName) → IsLawful (of_one g)
one_keeps g text s W f =
    read_keeps (needed 1 (ops s)) (λ _ _.
    read_keeps (number_at 0 (ops s)) (λ a _.
    read_keeps (g a) (λ r _.
    leaves_keeps f (literal (kind_of r) ∷ drop 1 (ops s)) (number_fits W.shapes r, drop_fits W.shapes 1 (ops s) f.state.registers.operands))))

two_keep : (g : Number → Number → Result Number ErrorName) → IsLawful (of_two g)
two_keep g text s W f =
    read_keeps (needed 2 (ops s)) (λ _ _.
    read_keeps (number_at 0 (ops s)) (λ b _.
    read_keeps (number_at 1 (ops s)) (λ a _.
    read_keeps (g a b) (λ r _.
    leaves_keeps f (literal (kind_of r) ∷ drop 2 (ops s)) (number_fits W.shapes r, drop_fits W.shapes 2 (ops s) f.state.registers.operands)))))

integers_keep : (g : ℤ → ℤ → Result ℤ ErrorName) → IsLawful (of_integers g)
integers_keep g text s W f =
    read_keeps (needed 2 (ops s)) (λ _ _.
    read_keeps (integer_at 0 (ops s)) (λ b _.
    read_keeps (integer_at 1 (ops s)) (λ a _.
    read_keeps (g a b) (λ n _.
    leaves_keeps f (literal (kind.Integer n) ∷ drop 2 (ops s)) (tt, drop_fits W.shapes 2 (ops s) f.state.registers.operands)))))

-- ---- random numbers

next_above : (x : ℕ) → 0 < x → x < 2147483647 → 0 < next_rand x
next_above x p q = omega arith

next_below : (x : ℕ) → next_rand x < 2147483647
next_below x = omega arith

rand_keeps_state : IsLawful rand
rand_keeps_state text s W f =
    read_keeps (room_for 1 (ops s)) (λ _ _.
    rand_keeps (λ x p q.
    rand_stored_keeps f (next_rand x) (literal (kind.Integer (pos (next_rand x))) ∷ ops s) (next_above x p q) (next_below x) (tt, f.state.registers.operands)))

or_one_above : (n : ℕ) → 0 < or_one n
or_one_above n = grind (arith, nat_tests)

or_one_below : (n : ℕ) → n < 2147483647 → or_one n < 2147483647
or_one_below n h = grind (arith, nat_tests)

seed_above : (i : ℤ) → 0 < seed_of i
seed_above i = or_one_above (unsigned_abs (int_rem_euclid i (pos 2147483647)))

remainder_below : (i : ℤ) → unsigned_abs (int_rem_euclid i (pos 2147483647)) < 2147483647
remainder_below (pos n) = omega arith
remainder_below (negsuc n) = omega arith

seed_below : (i : ℤ) → seed_of i < 2147483647
seed_below i = or_one_below (unsigned_abs (int_rem_euclid i (pos 2147483647))) (remainder_below i)

srand_keeps : IsLawful srand
srand_keeps text s W f =
    read_keeps (needed 1 (ops s)) (λ _ _.
    read_keeps (integer_at 0 (ops s)) (λ i _.
    rand_stored_keeps f (seed_of i) (drop 1 (ops s)) (seed_above i) (seed_below i) (drop_fits W.shapes 1 (ops s) f.state.registers.operands)))

rrand_keeps : IsLawful rrand
rrand_keeps text s W f =
    read_keeps (room_for 1 (ops s)) (λ _ _.
    rand_keeps (λ x _ _.
    leaves_keeps f (literal (kind.Integer (pos x)) ∷ ops s) (tt, f.state.registers.operands)))

-- ---- comparison

text_seeks : (W : World) (k : Kind) → FitsCell W.shapes (cell_named k) (takes k) → Seeks W Any (text_of k)
text_seeks W (kind.Str a) h = seeks_any (bytes_of a) (bytes_seek (string_kind W.shapes (kind.Str a) a h refl))
text_seeks W (kind.Name n) h = found_seeks Any n tt
text_seeks W _ h = found_seeks Any [] tt

same_text_seeks : (W : World) (x y : Object) → FitsObject W.shapes x → FitsObject W.shapes y → Seeks W Any (same_text x y)
same_text_seeks W x y h g =
    read_seeks (key_right_of y.access y.kind) (λ _ _.
    read_seeks (key_right_of x.access x.kind) (λ _ _.
    then_seeks Any (text_of y.kind) (text_seeks W y.kind g) (λ v _.
    then_seeks Any (text_of x.kind) (text_seeks W x.kind h) (λ u _.
    found_seeks Any (pointwise nat_eq u v) tt))))

equal_seeks : (W : World) (x y : Object) → FitsObject W.shapes x → FitsObject W.shapes y → Seeks W Any (equal x y)
equal_seeks W x y h g = go (is_text x.kind && is_text y.kind)
  where
    go : (t : Bool) → Seeks W Any (cond t (same_text x y) (found (same x.kind y.kind)))
    go true = same_text_seeks W x y h g
    go false = found_seeks Any (same x.kind y.kind) tt

equality_keeps : (g : Bool → Bool) → IsLawful (equality g)
equality_keeps g text s W f =
    let o : Fit W.shapes (ops s) = f.state.registers.operands in
    read_keeps (needed 2 (ops s)) (λ _ _.
    read_keeps (object_at 0 (ops s)) (λ y p.
    read_keeps (object_at 1 (ops s)) (λ x q.
    seeking_keeps Any (equal x y) (equal_seeks W x y (object_fits W.shapes (ops s) 1 x o q) (object_fits W.shapes (ops s) 0 y o p)) (λ b _.
    leaves_keeps f (literal (kind.Boolean (g b)) ∷ drop 2 (ops s)) (tt, drop_fits W.shapes 2 (ops s) o)))))

string_order_seeks : (W : World) (xs : List Object) → Fit W.shapes xs → Seeks W Any (string_order xs)
string_order_seeks W xs o =
    read_seeks (string_at 0 xs) (λ b p.
    read_seeks (string_at 1 xs) (λ a q.
    read_seeks (readable_at 0 xs) (λ _ _.
    read_seeks (readable_at 1 xs) (λ _ _.
    then_seeks (AreBytes W b.len) (bytes_of b) (bytes_seek (string_fits W.shapes xs 0 b o p)) (λ v _.
    then_seeks (AreBytes W a.len) (bytes_of a) (bytes_seek (string_fits W.shapes xs 1 a o q)) (λ u _.
    found_seeks Any (slice_cmp nat_cmp u v) tt))))))

number_order_seeks : (W : World) (xs : List Object) → Seeks W Any (number_order xs)
number_order_seeks W xs =
    read_seeks (number_at 0 xs) (λ b _.
    read_seeks (number_at 1 xs) (λ a _.
    found_seeks Any (values_order a b) tt))

order_seeks : (W : World) (xs : List Object) → Fit W.shapes xs → Seeks W Any (order xs)
order_seeks W xs o = read_seeks (object_at 0 xs) (λ y _. go (is_string y.kind))
  where
    go : (t : Bool) → Seeks W Any (cond t (string_order xs) (number_order xs))
    go true = string_order_seeks W xs o
    go false = number_order_seeks W xs

comparison_keeps : (test : Ordering → Bool) → IsLawful (comparison test)
comparison_keeps test text s W f =
    let o : Fit W.shapes (ops s) = f.state.registers.operands in
    read_keeps (needed 2 (ops s)) (λ _ _.
    seeking_keeps Any (order (ops s)) (order_seeks W (ops s) o) (λ r _.
    leaves_keeps f (literal (kind.Boolean (test r)) ∷ drop 2 (ops s)) (tt, drop_fits W.shapes 2 (ops s) o)))

-- ---- booleans and bits

joined_fits : (K : Shapes) (f : Bool → Bool → Bool) (g : ℤ → ℤ → ℤ) (x y k : Kind) → joined f g x y ≡ Ok k → FitsObject K (literal k)
joined_fits K f g (kind.Boolean a) (kind.Boolean b) k e = let p : kind.Boolean (f a b) ≡ k = cc in subst (λ k. FitsObject K (literal k)) p tt
joined_fits K f g (kind.Integer a) (kind.Integer b) k e = let p : kind.Integer (g a b) ≡ k = cc in subst (λ k. FitsObject K (literal k)) p tt
joined_fits K f g _ _ k e = cc

kinds_keep : (g : Kind → Kind → Result Kind ErrorName) → ((K : Shapes) (x y k : Kind) → g x y ≡ Ok k → FitsObject K (literal k)) → IsLawful (of_kinds g)
kinds_keep g h text s W f =
    read_keeps (needed 2 (ops s)) (λ _ _.
    read_keeps (object_at 0 (ops s)) (λ y _.
    read_keeps (object_at 1 (ops s)) (λ x _.
    read_keeps (g x.kind y.kind) (λ k e.
    leaves_keeps f (literal k ∷ drop 2 (ops s)) (h W.shapes x.kind y.kind k e, drop_fits W.shapes 2 (ops s) f.state.registers.operands)))))

opposite_fits : (K : Shapes) (x k : Kind) → opposite x ≡ Ok k → FitsObject K (literal k)
opposite_fits K (kind.Boolean b) k e = let p : kind.Boolean (not b) ≡ k = cc in subst (λ k. FitsObject K (literal k)) p tt
opposite_fits K (kind.Integer n) k e = let p : kind.Integer (int_bit_not w32 n) ≡ k = cc in subst (λ k. FitsObject K (literal k)) p tt
opposite_fits K _ k e = cc

not_keeps : IsLawful not_
not_keeps text s W f =
    read_keeps (needed 1 (ops s)) (λ _ _.
    read_keeps (object_at 0 (ops s)) (λ x _.
    read_keeps (opposite x.kind) (λ k e.
    leaves_keeps f (literal k ∷ drop 1 (ops s)) (opposite_fits W.shapes x.kind k e, drop_fits W.shapes 1 (ops s) f.state.registers.operands))))

-- ---- all of them

all_keep : AreLawful operators
all_keep =
    pop_keeps ▹ exch_keeps ▹ dup_keeps ▹ count_keeps ▹ clear_keeps ▹ index_keeps ▹ roll_keeps
    ▹ mark_keeps ▹ mark_keeps ▹ mark_keeps ▹ cleartomark_keeps ▹ counttomark_keeps
    ▹ two_keep sum ▹ two_keep difference ▹ two_keep product ▹ two_keep quotient
    ▹ integers_keep whole_quotient ▹ integers_keep remainder
    ▹ one_keeps magnitude ▹ one_keeps negative
    ▹ one_keeps rounded_up ▹ one_keeps rounded_down ▹ one_keeps rounded_to_nearest ▹ one_keeps without_fraction
    ▹ one_keeps root ▹ one_keeps sine ▹ one_keeps cosine ▹ two_keep angle
    ▹ rand_keeps_state ▹ srand_keeps ▹ rrand_keeps
    ▹ equality_keeps (λ b. b) ▹ equality_keeps not
    ▹ comparison_keeps is_gt ▹ comparison_keeps is_ge ▹ comparison_keeps is_lt ▹ comparison_keeps is_le
    ▹ kinds_keep conjunction (λ K. joined_fits K ◌&&◌ (int_bit_and w32))
    ▹ kinds_keep disjunction (λ K. joined_fits K ◌||◌ (int_bit_or w32))
    ▹ kinds_keep exclusion (λ K. joined_fits K (λ a b. not (beq a b)) (int_bit_xor w32))
    ▹ not_keeps ▹ integers_keep (λ n by. Ok (shifted n by)) ▹ tt

pub run_keeps : (n : ℕ) → IsLawful (run n)
run_keeps = all_lawful operators all_keep

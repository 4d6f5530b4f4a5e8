-- Steps, the newest first, by the list of the oldest first.
use Rattle.std.proofs.Common.{◌≡◌, ℕ, zero, suc, Bool, true, false, cond, List, [], ◌∷◌, ◌++◌, Option, Some, None, refl, sym, ap, ◌∙◌, slice_get, slice_set, length, reverse, nat_eq, arith}
use Rattle.std.proofs.lemmas.List.{reverse-append}
use Rattle.ps_objects.specs.declared.place.Value.{Value}
use Rattle.ps_memory.specs.Memory.{Spot, spot_of, Action, store, fresh, save, restore, tell}
use Rattle.ps_memory.specs.Ownership.{same_spot}
use Rattle.overlay_steps.specs.declared.pile.Note.{Note}
use Rattle.overlay_steps.specs.declared.pile.Note.TheVariants.{Fresh, Put, Save}
use Rattle.overlay_steps.specs.declared.pile.Step.{Step}
use Rattle.overlay_steps.specs.Newest.{newest, saved, revalued, put_at, value_of, put_value}
use Rattle.overlay_steps.specs.Pile.{action_of, acts, step_value, with_value, revalued_step, with_value_at, put_in}

length_end : {A : Type 0} (xs : List A) (y : A) → length (xs ++ y ∷ []) ≡ suc (length xs)
length_end [] y = refl
length_end (x ∷ xs) y = ap suc (length_end xs y)

same_suc : (i n : ℕ) → nat_eq (suc i) (suc n) ≡ nat_eq i n
same_suc i n = grind arith

zero_apart : (n : ℕ) → nat_eq zero (suc n) ≡ false
zero_apart n = grind arith

suc_apart : (i : ℕ) → nat_eq (suc i) zero ≡ false
suc_apart i = grind arith

pub reverse_end : {A : Type 0} (x : A) (xs : List A) → reverse (x ∷ xs) ≡ reverse xs ++ x ∷ []
reverse_end x xs = reverse-append (x ∷ []) xs

-- the oldest step, and the others
put_oldest : (v : Value) (xs : List Step) (y : Step) → with_value_at zero v (xs ++ y ∷ []) ≡ xs ++ revalued_step v y ∷ []
put_oldest v [] y = refl
put_oldest v (x ∷ xs) y =
    ap (λ n. cond (nat_eq zero n) (revalued_step v x ∷ (xs ++ y ∷ [])) (x ∷ with_value_at zero v (xs ++ y ∷ []))) (length_end xs y)
    ∙ ap (λ b. cond b (revalued_step v x ∷ (xs ++ y ∷ [])) (x ∷ with_value_at zero v (xs ++ y ∷ []))) (zero_apart (length xs))
    ∙ ap (λ ys. x ∷ ys) (put_oldest v xs y)

put_newer : (i : ℕ) (v : Value) (xs : List Step) (y : Step) → with_value_at (suc i) v (xs ++ y ∷ []) ≡ with_value_at i v xs ++ y ∷ []
put_newer i v [] y = ap (λ b. cond b (revalued_step v y ∷ []) (y ∷ [])) (suc_apart i)
put_newer i v (x ∷ xs) y =
    ap (λ n. cond (nat_eq (suc i) n) (revalued_step v x ∷ (xs ++ y ∷ [])) (x ∷ with_value_at (suc i) v (xs ++ y ∷ []))) (length_end xs y)
    ∙ ap (λ b. cond b (revalued_step v x ∷ (xs ++ y ∷ [])) (x ∷ with_value_at (suc i) v (xs ++ y ∷ []))) (same_suc i (length xs))
    ∙ ap (λ ys. cond (nat_eq i (length xs)) (revalued_step v x ∷ (xs ++ y ∷ [])) (x ∷ ys)) (put_newer i v xs y)
    ∙ go (nat_eq i (length xs))
  where
    go : (b : Bool) → cond b (revalued_step v x ∷ (xs ++ y ∷ [])) (x ∷ (with_value_at i v xs ++ y ∷ [])) ≡ cond b (revalued_step v x ∷ xs) (x ∷ with_value_at i v xs) ++ y ∷ []
    go true = refl
    go false = refl

pub turned_put : (xs : List Step) (i : ℕ) (v : Value) → reverse (put_in i v xs) ≡ with_value_at i v (reverse xs)
turned_put [] i v = refl
turned_put (x ∷ xs) zero v = reverse_end (revalued_step v x) xs ∙ sym (put_oldest v (reverse xs) x) ∙ ap (with_value_at zero v) (sym (reverse_end x xs))
turned_put (x ∷ xs) (suc i) v = go (slice_get xs i) refl ∙ ap (λ ys. ys ++ x ∷ []) (turned_put xs i v) ∙ sym (put_newer i v (reverse xs) x) ∙ ap (with_value_at (suc i) v) (sym (reverse_end x xs))
  where
    go : (o : Option Step) → slice_get xs i ≡ o → reverse (elim o as (λ _. List Step) [ None ↦ x ∷ xs | Some y ↦ slice_set (x ∷ xs) (suc i) (revalued_step v y) ])
        ≡ reverse (put_in i v xs) ++ x ∷ []
    go None e = reverse_end x xs ∙ ap (λ o. reverse (elim o as (λ _. List Step) [ None ↦ xs | Some y ↦ slice_set xs i (revalued_step v y) ]) ++ x ∷ []) (sym e)
    go (Some y) e = reverse_end x (slice_set xs i (revalued_step v y)) ∙ ap (λ o. reverse (elim o as (λ _. List Step) [ None ↦ xs | Some y ↦ slice_set xs i (revalued_step v y) ]) ++ x ∷ []) (sym e)

-- ---- what the steps do

pub acts_length : (xs : List Step) → length (acts xs) ≡ length xs
acts_length [] = refl
acts_length (x ∷ xs) = ap suc (acts_length xs)

acts_value : (v : Value) (w : Note) → action_of (with_value v w) ≡ revalued v (action_of w)
acts_value v (Fresh c sh) = refl
acts_value v (Put l u) = refl
acts_value v (Save s) = refl

-- another value in a step is another value in what it does
pub acts_put : (i : ℕ) (v : Value) (xs : List Step) → acts (with_value_at i v xs) ≡ put_at i v (acts xs)
acts_put i v [] = refl
acts_put i v (x ∷ xs) =
    go (nat_eq i (length xs))
    ∙ ap (λ w. cond (nat_eq i (length xs)) (w ∷ acts xs) (action_of x.note ∷ acts (with_value_at i v xs))) (acts_value v x.note)
    ∙ ap (λ ws. cond (nat_eq i (length xs)) (revalued v (action_of x.note) ∷ acts xs) (action_of x.note ∷ ws)) (acts_put i v xs)
    ∙ ap (λ n. cond (nat_eq i n) (revalued v (action_of x.note) ∷ acts xs) (action_of x.note ∷ put_at i v (acts xs))) (sym (acts_length xs))
  where
    go : (b : Bool) → acts (cond b (revalued_step v x ∷ xs) (x ∷ with_value_at i v xs)) ≡ cond b (action_of (with_value v x.note) ∷ acts xs) (action_of x.note ∷ acts (with_value_at i v xs))
    go true = refl
    go false = refl

-- ---- another value in a store changes no place, and not where stores and saves stand

newest_revalued : (p : Spot) (v : Value) (w : Action) (ws : List Action) → newest p (revalued v w ∷ ws) ≡ newest p (w ∷ ws)
newest_revalued p v (store l u) ws = refl
newest_revalued p v (fresh c sh) ws = refl
newest_revalued p v (save s) ws = refl
newest_revalued p v (restore s) ws = refl
newest_revalued p v (tell o) ws = refl

saved_revalued : (v : Value) (w : Action) (ws : List Action) → saved (revalued v w ∷ ws) ≡ saved (w ∷ ws)
saved_revalued v (store l u) ws = refl
saved_revalued v (fresh c sh) ws = refl
saved_revalued v (save s) ws = refl
saved_revalued v (restore s) ws = refl
saved_revalued v (tell o) ws = refl

pub put_length : (i : ℕ) (v : Value) (ws : List Action) → length (put_at i v ws) ≡ length ws
put_length i v [] = refl
put_length i v (w ∷ ws) = go (nat_eq i (length ws)) (put_length i v ws)
  where
    go : (b : Bool) → length (put_at i v ws) ≡ length ws → length (cond b (revalued v w ∷ ws) (w ∷ put_at i v ws)) ≡ suc (length ws)
    go true ih = refl
    go false ih = ap suc ih

newest_over : (p : Spot) (w : Action) (us ws : List Action) → length us ≡ length ws → newest p us ≡ newest p ws → newest p (w ∷ us) ≡ newest p (w ∷ ws)
newest_over p (store l u) us ws n e = λ i. cond (same_spot (spot_of l) p) (Some (n i)) (e i)
newest_over p (fresh c sh) us ws n e = e
newest_over p (save s) us ws n e = e
newest_over p (restore s) us ws n e = e
newest_over p (tell o) us ws n e = e

saved_over : (w : Action) (us ws : List Action) → length us ≡ length ws → saved us ≡ saved ws → saved (w ∷ us) ≡ saved (w ∷ ws)
saved_over (store l u) us ws n e = e
saved_over (fresh c sh) us ws n e = e
saved_over (save s) us ws n e = ap suc n
saved_over (restore s) us ws n e = e
saved_over (tell o) us ws n e = e

pub newest_put : (p : Spot) (i : ℕ) (v : Value) (ws : List Action) → newest p (put_at i v ws) ≡ newest p ws
newest_put p i v [] = refl
newest_put p i v (w ∷ ws) = go (nat_eq i (length ws)) (newest_put p i v ws)
  where
    go : (b : Bool) → newest p (put_at i v ws) ≡ newest p ws → newest p (cond b (revalued v w ∷ ws) (w ∷ put_at i v ws)) ≡ newest p (w ∷ ws)
    go true ih = newest_revalued p v w ws
    go false ih = newest_over p w (put_at i v ws) ws (put_length i v ws) ih

pub saved_put : (i : ℕ) (v : Value) (ws : List Action) → saved (put_at i v ws) ≡ saved ws
saved_put i v [] = refl
saved_put i v (w ∷ ws) = go (nat_eq i (length ws)) (saved_put i v ws)
  where
    go : (b : Bool) → saved (put_at i v ws) ≡ saved ws → saved (cond b (revalued v w ∷ ws) (w ∷ put_at i v ws)) ≡ saved (w ∷ ws)
    go true ih = saved_revalued v w ws
    go false ih = saved_over w (put_at i v ws) ws (put_length i v ws) ih

-- ---- the value at a place

acts_end : (xs : List Step) (y : Step) → length (acts (xs ++ y ∷ [])) ≡ suc (length (acts xs))
acts_end [] y = refl
acts_end (x ∷ xs) y = ap suc (acts_end xs y)

value_oldest : (xs : List Step) (y : Step) → put_value zero (acts (xs ++ y ∷ [])) ≡ value_of (action_of y.note)
value_oldest [] y = refl
value_oldest (x ∷ xs) y =
    ap (λ n. cond (nat_eq zero n) (value_of (action_of x.note)) (put_value zero (acts (xs ++ y ∷ [])))) (acts_end xs y)
    ∙ ap (λ b. cond b (value_of (action_of x.note)) (put_value zero (acts (xs ++ y ∷ [])))) (zero_apart (length (acts xs)))
    ∙ value_oldest xs y

value_newer : (i : ℕ) (xs : List Step) (y : Step) → put_value (suc i) (acts (xs ++ y ∷ [])) ≡ put_value i (acts xs)
value_newer i [] y = ap (λ b. cond b (value_of (action_of y.note)) None) (suc_apart i)
value_newer i (x ∷ xs) y =
    ap (λ n. cond (nat_eq (suc i) n) (value_of (action_of x.note)) (put_value (suc i) (acts (xs ++ y ∷ [])))) (acts_end xs y)
    ∙ ap (λ b. cond b (value_of (action_of x.note)) (put_value (suc i) (acts (xs ++ y ∷ [])))) (same_suc i (length (acts xs)))
    ∙ ap (λ o. cond (nat_eq i (length (acts xs))) (value_of (action_of x.note)) o) (value_newer i xs y)

pub turned_value : (xs : List Step) (i : ℕ) → step_value (slice_get xs i) ≡ put_value i (acts (reverse xs))
turned_value [] i = refl
turned_value (x ∷ xs) zero = sym (ap (λ ys. put_value zero (acts ys)) (reverse_end x xs) ∙ value_oldest (reverse xs) x)
turned_value (x ∷ xs) (suc i) = turned_value xs i ∙ sym (ap (λ ys. put_value (suc i) (acts ys)) (reverse_end x xs) ∙ value_newer i (reverse xs) x)

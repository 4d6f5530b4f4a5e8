-- What a source gives is what it would still give.
use Rattle.std.proofs.Common.{◌≡◌, ℕ, zero, suc, ◌+◌, ◌<◌, ◌≤◌, Bool, true, false, List, [], ◌∷◌, length, drop, refl, sym, ap, subst, ◌∙◌, arith, ⊎_elim, Some, drop_of_length-le, drop-drop}
use Rattle.std.specs.Prelude.{nat_le, nat_lt, ◌&&◌}
use Rattle.std.proofs.lemmas.Bool.{cases_Bool, cond-true, cond-false, leb-true}
use Rattle.std.proofs.lemmas.List.{length-set}
use Rattle.filter_tower.specs.declared.tower.FilterKind.{FilterKind}
use Rattle.filter_tower.specs.declared.standing.FilterState.{FilterState}
use Rattle.filter_tower.specs.declared.standing.FilterState.TheVariants.{Open, Ended, Failed}
use Rattle.filter_tower.specs.declared.standing.Standing.{Standing}
use Rattle.data_filters.specs.declared.given.Given.{Given}
use Rattle.data_filters.specs.declared.given.Given.TheVariants.{Byte, End, Bad}
use Rattle.data_filters.specs.declared.code.Code.{Code}
use Rattle.data_filters.specs.declared.code.Code.TheVariants.{Gives, Ends, EndsWithSource, Wrong}
use Rattle.data_filters.specs.declared.reading.Reading.{Reading}
use Rattle.data_filters.specs.Rests.{Rest, byte, ended, broken, onto, reach, behind, size, Yields}
use Rattle.data_filters.specs.Codes.{passes, code, length_taken}
use Rattle.data_filters.specs.Decoded.{through, decoded}
use Rattle.data_filters.specs.Layers.{Source, the_text, over, Call, pending, standing_at, put, at_end, at_fault, behind_code, rest, taking, taken_from, end_taken, is_open, is_spent, settled, code_begun, code_taken, byte_passed, gives_by, text_gives, give}
use Rattle.data_filters.proofs.CodeLemmas.{IsSound, sound}
use Rattle.data_filters.proofs.DecodedLemmas.{decoded_through, later}
use Rattle.data_filters.proofs.SourceLemmas.{IsBelow, text_yields, rest_over, rest_over_put, rest_ended, rest_failed, rest_open}

-- a call gives the first byte of the rest, and leaves the others
pub record Goes (text : List ℕ) (source : Source) (reading : Reading) (result : Given × Reading) : Type 0 where
  pub yields : Yields (rest text source reading) result.0 (rest text source result.1)
  pub same : length result.1.standings ≡ length reading.standings

abbrev pub GoesOn : List ℕ → Source → ℕ → Call → Type 0
GoesOn text source n call = (reading : Reading) → n ≤ length reading.standings → Goes text source reading (call reading)

pub put_same : (k : ℕ) (standing : Standing) (reading : Reading) → length (put k standing reading).standings ≡ length reading.standings
put_same k standing reading = length-set reading.standings k standing

after_byte : (b : ℕ) (r s : Rest) (g : Given) → Yields (byte b r) g s → r ≡ s
after_byte b r s (Byte c) h = cc
after_byte b r s End h = absurd (let no : byte b r ≡ ended = h.0 in cc)
after_byte b r s Bad h = absurd (let no : byte b r ≡ broken = h.0 in cc)

pub taking_same : (text : List ℕ) (source : Source) (n : ℕ) (call : Call) → GoesOn text source n call → (m : ℕ) (reading : Reading) → n ≤ length reading.standings
    → length (taking m call reading).standings ≡ length reading.standings
taking_same text source n call goes zero reading h = refl
taking_same text source n call goes (suc m) reading h =
    let one = (goes reading h).same in
    taking_same text source n call goes m (call reading).1 (omega (arith, h, one)) ∙ one

-- after bytes that aren't passed over were taken, those behind them are left
pub taking_left : (text : List ℕ) (source : Source) (n : ℕ) (call : Call) → GoesOn text source n call → (passed : ℕ → Bool) (m : ℕ) (x : Rest) (reading : Reading)
    → n ≤ length reading.standings → rest text source reading ≡ x → rest text source (taking (reach passed m x) call reading) ≡ behind passed m x
taking_left text source n call goes passed zero x reading h e = e
taking_left text source n call goes passed (suc m) ended reading h e = e
taking_left text source n call goes passed (suc m) broken reading h e = e
taking_left text source n call goes passed (suc m) (byte b x) reading h e =
    let one = goes reading h in
    let next : rest text source (call reading).1 ≡ x = sym (after_byte b x (rest text source (call reading).1) (call reading).0 (subst (λ r. Yields r (call reading).0 (rest text source (call reading).1)) e one.yields)) in
    let room : n ≤ length (call reading).1.standings = omega (arith, h, one.same) in
    let more : (j : ℕ) → taking (1 + j) call reading ≡ taking j call (call reading).1 = λ j. let up : 1 + j ≡ suc j = omega arith in ap (λ i. taking i call reading) up in
    ⊎_elim
    (λ (t : passed b ≡ true). rw t (ap (rest text source) (more (reach passed (suc m) x)) ∙ taking_left text source n call goes passed (suc m) x (call reading).1 room next))
    (λ (f : passed b ≡ false). rw f (ap (rest text source) (more (reach passed m x)) ∙ taking_left text source n call goes passed m x (call reading).1 room next))
    (cases_Bool (passed b))

-- the layer that stands over a source

pub record LayerStands (text : List ℕ) (k : ℕ) (below : Source) (call : Call) (reading : Reading) : Type 0 where
  pub lower : IsBelow k below
  pub goes : GoesOn text below k call
  pub room : k < length reading.standings

put_end : (text : List ℕ) (k : ℕ) (kind : FilterKind) (below : Source) (call : Call) (reading : Reading) → LayerStands text k below call reading → (n : ℕ)
    → rest text (over k kind below) (put k at_end (taking n call reading)) ≡ ended
put_end text k kind below call reading stands n =
    let same = taking_same text below k call stands.goes n reading (omega (arith, stands.room)) in
    rest_over_put text k kind below (taking n call reading) at_end stands.lower (omega (arith, stands.room, same))

end_same : (text : List ℕ) (k : ℕ) (kind : FilterKind) (below : Source) (call : Call) (reading : Reading) → LayerStands text k below call reading → (source : Rest) (c : Code)
    → length (end_taken k kind source call reading c).standings ≡ length reading.standings
end_same text k kind below call reading stands source (Gives bytes taken) = refl
end_same text k kind below call reading stands source (Ends taken) =
    put_same k at_end (taken_from kind source call reading (Ends taken)) ∙ taking_same text below k call stands.goes (length_taken kind source (Some taken)) reading (omega (arith, stands.room))
end_same text k kind below call reading stands source EndsWithSource =
    put_same k at_end (taken_from kind source call reading EndsWithSource) ∙ taking_same text below k call stands.goes (size source) reading (omega (arith, stands.room))
end_same text k kind below call reading stands source Wrong = refl

end_rest : (text : List ℕ) (k : ℕ) (kind : FilterKind) (below : Source) (call : Call) (reading : Reading) → LayerStands text k below call reading → (source : Rest) (c : Code) (f : ℕ → ℕ → Rest)
    → rest text (over k kind below) reading ≡ through c f → rest text (over k kind below) (end_taken k kind source call reading c) ≡ rest text (over k kind below) reading
end_rest text k kind below call reading stands source (Gives bytes taken) f e = refl
end_rest text k kind below call reading stands source (Ends taken) f e = put_end text k kind below call reading stands (length_taken kind source (Some taken)) ∙ sym e
end_rest text k kind below call reading stands source EndsWithSource f e = put_end text k kind below call reading stands (size source) ∙ sym e
end_rest text k kind below call reading stands source Wrong f e = refl

open_is : (state : FilterState) → is_open state ≡ true → state ≡ Open
open_is Open h = refl
open_is Ended h = absurd (cc)
open_is Failed h = absurd (cc)

both : (x y : Bool) → (x && y) ≡ true → (x ≡ true) × (y ≡ true)
both true y h = (refl, h)
both false y h = absurd (cc)

pub spent_is : (standing : Standing) → is_spent standing ≡ true → (standing.state ≡ Open) × (pending standing ≡ [])
spent_is standing h =
    let parts = both (is_open standing.state) (nat_le (length standing.code) standing.from) h in
    (open_is standing.state parts.0, drop_of_length-le standing.code (leb-true (length standing.code) standing.from parts.1))

pub settled_same : (text : List ℕ) (k : ℕ) (kind : FilterKind) (below : Source) (call : Call) (reading : Reading) → LayerStands text k below call reading
    → length (settled text k kind below call reading).standings ≡ length reading.standings
unfolding settled
settled_same text k kind below call reading stands =
    ⊎_elim
    (λ (t : is_spent (standing_at reading k) ≡ true). rw t (end_same text k kind below call reading stands (rest text below reading) (code kind (standing_at reading k).given (rest text below reading))))
    (λ (f : is_spent (standing_at reading k) ≡ false). rw f refl)
    (cases_Bool (is_spent (standing_at reading k)))

pub settled_rest : (text : List ℕ) (k : ℕ) (kind : FilterKind) (below : Source) (call : Call) (reading : Reading) → LayerStands text k below call reading
    → rest text (over k kind below) (settled text k kind below call reading) ≡ rest text (over k kind below) reading
unfolding settled
settled_rest text k kind below call reading stands =
    let given = (standing_at reading k).given in
    ⊎_elim
    (λ (t : is_spent (standing_at reading k) ≡ true).
    let spent = spent_is (standing_at reading k) t in
    ap (rest text (over k kind below)) (cond-true (is_spent (standing_at reading k)) _ reading t)
    ∙ end_rest text k kind below call reading stands (rest text below reading) (code kind given (rest text below reading)) (later kind given (rest text below reading))
    (rest_open text k kind below reading spent.1 spent.0 ∙ decoded_through kind given (rest text below reading)))
    (λ (f : is_spent (standing_at reading k) ≡ false). ap (rest text (over k kind below)) (cond-false (is_spent (standing_at reading k)) _ reading f))
    (cases_Bool (is_spent (standing_at reading k)))

-- where only what stands at its place is put
stands_put : (text : List ℕ) (k : ℕ) (below : Source) (call : Call) (reading middle : Reading) → LayerStands text k below call reading
    → length middle.standings ≡ length reading.standings → LayerStands text k below call middle
stands_put text k below call reading middle stands same = record { lower = stands.lower; goes = stands.goes; room = omega (arith, stands.room, same) }

code_goes : (text : List ℕ) (k : ℕ) (kind : FilterKind) (below : Source) (call : Call) (reading : Reading) → LayerStands text k below call reading → (c : Code) → IsSound c
    → rest text (over k kind below) reading ≡ through c (later kind (standing_at reading k).given (rest text below reading))
    → Goes text (over k kind below) reading (code_taken text k kind below call reading c)
unfolding code_taken
code_goes text k kind below call reading stands (Gives [] taken) sound_code e = absurd sound_code
code_goes text k kind below call reading stands (Gives (b ∷ bs) taken) sound_code e =
    let source : Rest = rest text below reading in
    let given : ℕ = (standing_at reading k).given in
    let standing : Standing = code_begun given (b ∷ bs) in
    let middle : Reading = taken_from kind source call reading (Gives (b ∷ bs) taken) in
    let same : length middle.standings ≡ length reading.standings = taking_same text below k call stands.goes (length_taken kind source (Some taken)) reading (omega (arith, stands.room)) in
    let held : length (put k standing middle).standings ≡ length reading.standings = put_same k standing middle ∙ same in
    let after : LayerStands text k below call (put k standing middle) = stands_put text k below call reading (put k standing middle) stands held in
    let left : rest text below middle ≡ behind (passes kind) taken source = taking_left text below k call stands.goes (passes kind) taken source reading (omega (arith, stands.room)) refl in
    record {
      yields =
          e
          ∙ ap (λ r. byte b (onto bs (decoded kind standing.given 0 r))) (sym left)
          ∙ ap (byte b) (sym (settled_rest text k kind below call (put k standing middle) after ∙ rest_over_put text k kind below middle standing stands.lower (omega (arith, stands.room, same))));
      same = settled_same text k kind below call (put k standing middle) after ∙ held;
    }
code_goes text k kind below call reading stands (Ends taken) sound_code e =
    let n : ℕ = length_taken kind (rest text below reading) (Some taken) in
    record {
      yields = (e, put_end text k kind below call reading stands n);
      same = put_same k at_end (taking n call reading) ∙ taking_same text below k call stands.goes n reading (omega (arith, stands.room));
    }
code_goes text k kind below call reading stands EndsWithSource sound_code e =
    let n : ℕ = size (rest text below reading) in
    record {
      yields = (e, put_end text k kind below call reading stands n);
      same = put_same k at_end (taking n call reading) ∙ taking_same text below k call stands.goes n reading (omega (arith, stands.room));
    }
code_goes text k kind below call reading stands Wrong sound_code e =
    record { yields = (e, rest_over_put text k kind below reading at_fault stands.lower stands.room); same = put_same k at_fault reading }

-- behind an item of a list the others come
dropped : (xs : List ℕ) (i b : ℕ) (more : List ℕ) → drop i xs ≡ b ∷ more → drop (i + 1) xs ≡ more
dropped xs i b more e =
    let one : drop (i + 1) xs ≡ drop 1 (drop i xs) = sym (drop-drop 1 i xs) in
    one ∙ ap (drop 1) e

by_goes : (text : List ℕ) (k : ℕ) (kind : FilterKind) (below : Source) (call : Call) (reading : Reading) → LayerStands text k below call reading → (p : List ℕ) (state : FilterState)
    → pending (standing_at reading k) ≡ p → (standing_at reading k).state ≡ state → Goes text (over k kind below) reading (gives_by p state text k kind below call reading)
unfolding gives_by
by_goes text k kind below call reading stands (b ∷ more) state e s =
    let standing : Standing = standing_at reading k in
    let passed : Standing = record standing { from = standing.from + 1 } in
    let held = put_same k passed reading in
    let after : LayerStands text k below call (byte_passed k reading) = stands_put text k below call reading (byte_passed k reading) stands held in
    record {
      yields =
          rest_over text k kind below reading standing refl ∙ ap (λ x. onto x (behind_code kind standing (rest text below reading))) e
          ∙ ap (λ x. byte b (onto x (behind_code kind standing (rest text below reading)))) (sym (dropped standing.code standing.from b more e))
          ∙ ap (byte b) (sym (settled_rest text k kind below call (byte_passed k reading) after ∙ rest_over_put text k kind below reading passed stands.lower stands.room));
      same = settled_same text k kind below call (byte_passed k reading) after ∙ held;
    }
by_goes text k kind below call reading stands [] Open e s =
    let given : ℕ = (standing_at reading k).given in
    code_goes text k kind below call reading stands (code kind given (rest text below reading)) (sound kind given (rest text below reading))
    (rest_open text k kind below reading e s ∙ decoded_through kind given (rest text below reading))
by_goes text k kind below call reading stands [] Ended e s =
    let is = rest_ended text k kind below reading e s in record { yields = (is, is); same = refl }
by_goes text k kind below call reading stands [] Failed e s =
    let is = rest_failed text k kind below reading e s in record { yields = (is, is); same = refl }

text_same : (text : List ℕ) (reading : Reading) → length (text_gives text reading).1.standings ≡ length reading.standings
text_same text reading =
    ⊎_elim
    (λ (t : nat_lt reading.place (length text) ≡ true). rw t refl)
    (λ (f : nat_lt reading.place (length text) ≡ false). rw f refl)
    (cases_Bool (nat_lt reading.place (length text)))

-- each call on a source gives the first byte of its rest, if one is left
pub give_goes : (text : List ℕ) (source : Source) (n : ℕ) → IsBelow n source → GoesOn text source n (give text source)
unfolding give
give_goes text the_text n b reading h = record { yields = text_yields text reading (text_gives text reading).1 (text_gives text reading).0 refl; same = text_same text reading }
give_goes text (over k kind below) n b reading h =
    let stands : LayerStands text k below (give text below) reading = record { lower = b.1; goes = give_goes text below k b.1; room = omega (arith, h, b.0) } in
    by_goes text k kind below (give text below) reading stands (pending (standing_at reading k)) (standing_at reading k).state refl refl

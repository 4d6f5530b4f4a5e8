-- Taking bytes and codes from a source.
use Rattle.std.proofs.Common.{◌≡◌, ℕ, zero, suc, ◌+◌, ◌-◌, ◌<◌, ◌≤◌, Bool, true, false, List, [], ◌∷◌, length, drop, get_or, refl, sym, ap, subst, ◌∙◌, arith, ⊎_elim, Option, Some, None, add-one, drop_of_length-le}
use Rattle.std.specs.Prelude.{slice_get, slice_set, slice_index, nat_lt}
use Rattle.std.proofs.lemmas.Bool.{cases_Bool, cond-true, cond-false, lt-ltb, ltb-true}
use Rattle.std.proofs.Math.Seq.{drop-cons}
use Rattle.filter_tower.specs.declared.tower.FilterKind.{FilterKind}
use Rattle.filter_tower.specs.declared.tower.FilterLayer.{FilterLayer}
use Rattle.filter_tower.specs.declared.standing.FilterState.TheVariants.{Open, Ended, Failed}
use Rattle.filter_tower.specs.declared.standing.Standing.{Standing}
use Rattle.filter_tower.specs.Layers.{IsTower, below_at, kind_at}
use Rattle.data_filters.specs.declared.given.Given.{Given}
use Rattle.data_filters.specs.declared.given.Given.TheVariants.{Byte, End, Bad}
use Rattle.data_filters.specs.declared.code.Code.{Code}
use Rattle.data_filters.specs.declared.code.Code.TheVariants.{Gives, Ends, EndsWithSource, Wrong}
use Rattle.data_filters.specs.declared.reading.Reading.{Reading}
use Rattle.data_filters.specs.Rests.{Rest, byte, ended, broken, has_byte, size, rest_of, onto, Yields}
use Rattle.data_filters.specs.Codes.{passes, code, left_behind, takes_more, length_taken}
use Rattle.data_filters.specs.Layers.{Source, Call, the_text, source_of, source_below, standing_at, put, at_end, at_fault, rest, taking, end_taken, is_spent, has_pending, behind_code, settled, code_begun, code_taken, gives_by, layer_gives, text_gives, give}
use Rattle.data_filters.specs.Found.{GivesPending}
use Rattle.data_filters.proofs.Readings.{standing_is}
use Rattle.data_filters.proofs.SourceLemmas.{rest_over, source_zero, source_up, source_is_below, below_is, rest_agree, layer_is}
use Rattle.data_filters.proofs.GiveLemmas.{Goes, give_goes}

-- a source as it stands in a copy
pub copied : (text : List ℕ) (layers : List FilterLayer) (source : ℕ) (now ahead : Reading) → IsTower layers → source ≤ length layers → ahead.place ≡ now.place
    → ((k : ℕ) → k < source → standing_at ahead k ≡ standing_at now k) → rest text (source_of layers source) ahead ≡ rest text (source_of layers source) now
copied text layers source now ahead tower h p s = rest_agree text (source_of layers source) source ahead now (source_is_below layers source tower h) p s

abbrev is_byte : Given → Bool
is_byte (Byte b) = true
is_byte End = false
is_byte Bad = false

has_byte_is : (old new : Rest) (g : Given) → Yields old g new → is_byte g ≡ has_byte old
has_byte_is old new (Byte b) h = sym (ap has_byte h)
has_byte_is old new End h = sym (ap has_byte h.0)
has_byte_is old new Bad h = sym (ap has_byte h.0)

pub copied_byte : (text : List ℕ) (layers : List FilterLayer) (source : ℕ) (now ahead : Reading) (new : Rest) (g : Given) → IsTower layers → source ≤ length layers → ahead.place ≡ now.place
    → ((k : ℕ) → k < source → standing_at ahead k ≡ standing_at now k) → Yields (rest text (source_of layers source) ahead) g new
    → is_byte g ≡ has_byte (rest text (source_of layers source) now)
copied_byte text layers source now ahead new g tower h p s y =
    has_byte_is (rest text (source_of layers source) ahead) new g y ∙ ap has_byte (copied text layers source now ahead tower h p s)

-- the source of a layer, whatever stands in for one that isn't there
pub below_source : (layers : List FilterLayer) (k : ℕ) (other : FilterLayer) → k < length layers → source_of layers (get_or layers k other).below ≡ source_below layers k
below_source layers k other h = ap (λ (x : FilterLayer). source_of layers x.below) (sym (layer_is layers k other h))

pub below_number : (layers : List FilterLayer) (k : ℕ) (other : FilterLayer) → k < length layers → (get_or layers k other).below ≡ below_at layers k
below_number layers k other h = ap (λ (x : FilterLayer). x.below) (sym (layer_is layers k other h))

pub kind_is : (layers : List FilterLayer) (k : ℕ) (other : FilterLayer) → k < length layers → (get_or layers k other).kind ≡ kind_at layers k
kind_is layers k other h = ap (λ (x : FilterLayer). x.kind) (sym (layer_is layers k other h))

-- the calls

pub gives_text : (text : List ℕ) (layers : List FilterLayer) (source : ℕ) (old new : Reading) (g : Given) → source ≡ 0 → text_gives text old ≡ (g, new)
    → give text (source_of layers source) old ≡ (g, new)
unfolding give
gives_text text layers source old new g z e = ap (λ s. give text s old) (ap (source_of layers) z ∙ source_zero layers) ∙ e

gives_layer : (text : List ℕ) (layers : List FilterLayer) (source k : ℕ) (old : Reading) → IsTower layers → source ≤ length layers → source ≡ suc k
    → give text (source_of layers source) old ≡ layer_gives text k (kind_at layers k) (source_below layers k) (give text (source_below layers k)) old
unfolding give
gives_layer text layers source k old tower h e = ap (λ s. give text s old) (source_up layers source k tower h e)

pub gives_pending : (text : List ℕ) (layers : List FilterLayer) (source k b : ℕ) (old middle new : Reading) → IsTower layers → source ≤ length layers → source ≡ suc k
    → GivesPending k old (Some b) middle → new ≡ settled text k (kind_at layers k) (source_below layers k) (give text (source_below layers k)) middle
    → give text (source_of layers source) old ≡ (Byte b, new)
unfolding gives_by
gives_pending text layers source k b old middle new tower h e p is =
    let below : Source = source_below layers k in
    gives_layer text layers source k old tower h e
    ∙ ap (λ x. gives_by x (standing_at old k).state text k (kind_at layers k) below (give text below) old) p.0
    ∙ ap (λ (r : Reading). (Byte b, settled text k (kind_at layers k) below (give text below) r)) (sym p.1)
    ∙ ap (λ (r : Reading). (Byte b, r)) (sym is)

-- a layer without bytes of a code
gives_state : (text : List ℕ) (layers : List FilterLayer) (source k : ℕ) (old held : Reading) (standing : Standing) → IsTower layers → source ≤ length layers → source ≡ suc k
    → GivesPending k old None held → slice_get held.standings k ≡ Some standing
    → give text (source_of layers source) old ≡ gives_by [] standing.state text k (kind_at layers k) (source_below layers k) (give text (source_below layers k)) held
gives_state text layers source k old held standing tower h e p at =
    let below : Source = source_below layers k in
    let at_old : slice_get old.standings k ≡ Some standing = ap (λ (r : Reading). slice_get r.standings k) (sym p.1) ∙ at in
    gives_layer text layers source k old tower h e
    ∙ ap (λ x. gives_by x (standing_at old k).state text k (kind_at layers k) below (give text below) old) p.0
    ∙ ap (λ (x : Standing). gives_by [] x.state text k (kind_at layers k) below (give text below) old) (standing_is old k standing at_old)
    ∙ ap (λ r. gives_by [] standing.state text k (kind_at layers k) below (give text below) r) (sym p.1)

pub gives_end : (text : List ℕ) (layers : List FilterLayer) (source k : ℕ) (old held : Reading) (standing : Standing) → IsTower layers → source ≤ length layers → source ≡ suc k
    → GivesPending k old None held → slice_get held.standings k ≡ Some standing → standing.state ≡ Ended → give text (source_of layers source) old ≡ (End, held)
unfolding gives_by
gives_end text layers source k old held standing tower h e p at s =
    let below : Source = source_below layers k in
    gives_state text layers source k old held standing tower h e p at ∙ ap (λ x. gives_by [] x text k (kind_at layers k) below (give text below) held) s

pub gives_fault : (text : List ℕ) (layers : List FilterLayer) (source k : ℕ) (old held : Reading) (standing : Standing) → IsTower layers → source ≤ length layers → source ≡ suc k
    → GivesPending k old None held → slice_get held.standings k ≡ Some standing → standing.state ≡ Failed → give text (source_of layers source) old ≡ (Bad, held)
unfolding gives_by
gives_fault text layers source k old held standing tower h e p at s =
    let below : Source = source_below layers k in
    gives_state text layers source k old held standing tower h e p at ∙ ap (λ x. gives_by [] x text k (kind_at layers k) below (give text below) held) s

pub gives_code : (text : List ℕ) (layers : List FilterLayer) (source k : ℕ) (old held new : Reading) (standing : Standing) (g : Given) → IsTower layers → source ≤ length layers → source ≡ suc k
    → GivesPending k old None held → slice_get held.standings k ≡ Some standing → standing.state ≡ Open
    → code_taken text k (kind_at layers k) (source_below layers k) (give text (source_below layers k)) held (code (kind_at layers k) (standing_at held k).given (rest text (source_below layers k) held)) ≡ (g, new)
    → give text (source_of layers source) old ≡ (g, new)
unfolding gives_by
gives_code text layers source k old held new standing g tower h e p at s is =
    let below : Source = source_below layers k in
    gives_state text layers source k old held standing tower h e p at ∙ ap (λ x. gives_by [] x text k (kind_at layers k) below (give text below) held) s ∙ is

-- ends that are taken at once

pub settled_not : (text : List ℕ) (k : ℕ) (kind : FilterKind) (below : Source) (call : Call) (reading : Reading) → is_spent (standing_at reading k) ≡ false → settled text k kind below call reading ≡ reading
unfolding settled
settled_not text k kind below call reading f = cond-false (is_spent (standing_at reading k)) _ reading f

pub settled_is : (text : List ℕ) (k : ℕ) (kind : FilterKind) (below : Source) (call : Call) (reading : Reading) (c : Code) → is_spent (standing_at reading k) ≡ true
    → c ≡ code kind (standing_at reading k).given (rest text below reading)
    → settled text k kind below call reading ≡ end_taken k kind (rest text below reading) call reading c
unfolding settled
settled_is text k kind below call reading c t e =
    cond-true (is_spent (standing_at reading k)) _ reading t ∙ ap (end_taken k kind (rest text below reading) call reading) (sym e)

-- bytes that are taken one by one

pub none_to_take : (kind : FilterKind) (x : Rest) (left : Option ℕ) (call : Call) (reading : Reading) → has_byte x ≡ false → taking (length_taken kind x left) call reading ≡ reading
none_to_take kind (byte b x) left call reading h = absurd (cc)
none_to_take kind ended None call reading h = refl
none_to_take kind broken None call reading h = refl
none_to_take kind ended (Some zero) call reading h = refl
none_to_take kind ended (Some (suc n)) call reading h = refl
none_to_take kind broken (Some zero) call reading h = refl
none_to_take kind broken (Some (suc n)) call reading h = refl

pub all_taken : (kind : FilterKind) (x : Rest) (left : Option ℕ) (call : Call) (reading : Reading) → takes_more left ≡ false → taking (length_taken kind x left) call reading ≡ reading
all_taken kind x None call reading h = absurd (cc)
all_taken kind x (Some zero) call reading h = refl
all_taken kind x (Some (suc n)) call reading h = absurd (cc)

length_behind : (kind : FilterKind) (b : ℕ) (x : Rest) (left : Option ℕ) → takes_more left ≡ true → length_taken kind (byte b x) left ≡ 1 + length_taken kind x (left_behind kind b left)
length_behind kind b x None h = refl
length_behind kind b x (Some zero) h = absurd (cc)
length_behind kind b x (Some (suc n)) h =
    let less : suc n - 1 ≡ n = omega arith in
    ⊎_elim
    (λ (t : passes kind b ≡ true). rw t refl)
    (λ (f : passes kind b ≡ false). rw f (rw less refl))
    (cases_Bool (passes kind b))

-- the byte that was taken, and those to be taken behind it
pub one_taken : (text : List ℕ) (layers : List FilterLayer) (k b : ℕ) (kind : FilterKind) (left : Option ℕ) (old new : Reading) → IsTower layers → k < length layers → length layers ≤ length old.standings
    → takes_more left ≡ true → give text (source_below layers k) old ≡ (Byte b, new)
    → (taking (length_taken kind (rest text (source_below layers k) new) (left_behind kind b left)) (give text (source_below layers k)) new
    ≡ taking (length_taken kind (rest text (source_below layers k) old) left) (give text (source_below layers k)) old)
    × (size (rest text (source_below layers k) new) < size (rest text (source_below layers k) old))
one_taken text layers k b kind left old new tower h room some is =
    let below : Source = source_below layers k in
    let call : Call = give text below in
    let goes : Goes text below old (Byte b, new) =
    subst (Goes text below old) is (give_goes text below k (below_is layers k tower h) old (omega (arith, h, room)))
    in
    let whole : rest text below old ≡ byte b (rest text below new) = goes.yields in
    let n : ℕ = length_taken kind (rest text below new) (left_behind kind b left) in
    let count : length_taken kind (rest text below old) left ≡ suc n =
    let e = ap (λ x. length_taken kind x left) whole ∙ length_behind kind b (rest text below new) left some in omega (arith, e)
    in (
      sym (ap (λ m. taking m call old) count ∙ ap (λ (x : Given × Reading). taking n call x.1) is),
      omega (arith, ap size whole),
    )

-- a source that has a byte gives it
pub gives_it : (text : List ℕ) (layers : List FilterLayer) (k : ℕ) (old new : Reading) (g : Given) → IsTower layers → k < length layers → length layers ≤ length old.standings
    → has_byte (rest text (source_below layers k) old) ≡ true → give text (source_below layers k) old ≡ (g, new) → is_byte g ≡ true
gives_it text layers k old new g tower h room some is =
    let below : Source = source_below layers k in
    let goes : Goes text below old (g, new) = subst (Goes text below old) is (give_goes text below k (below_is layers k tower h) old (omega (arith, h, room))) in
    has_byte_is (rest text below old) (rest text below new) g goes.yields ∙ some

-- where a source has a byte, it doesn't answer otherwise
pub no_end : (text : List ℕ) (layers : List FilterLayer) (k : ℕ) (old new : Reading) → IsTower layers → k < length layers → length layers ≤ length old.standings
    → has_byte (rest text (source_below layers k) old) ≡ true → give text (source_below layers k) old ≡ (End, new) → ⊥
no_end text layers k old new tower h room some is = let no : false ≡ true = gives_it text layers k old new End tower h room some is in cc

pub no_fault : (text : List ℕ) (layers : List FilterLayer) (k : ℕ) (old new : Reading) → IsTower layers → k < length layers → length layers ≤ length old.standings
    → has_byte (rest text (source_below layers k) old) ≡ true → give text (source_below layers k) old ≡ (Bad, new) → ⊥
no_fault text layers k old new tower h room some is = let no : false ≡ true = gives_it text layers k old new Bad tower h room some is in cc

-- the next code of a layer, as it was found in a copy
pub looked : (text : List ℕ) (layers : List FilterLayer) (k : ℕ) (now ahead : Reading) (standing : Standing) (one other : FilterLayer) (c : Code) → IsTower layers → k < length layers
    → ahead.place ≡ now.place → ((j : ℕ) → j < (get_or layers k one).below → standing_at ahead j ≡ standing_at now j) → slice_get now.standings k ≡ Some standing
    → c ≡ code (get_or layers k other).kind standing.given (rest text (source_of layers (get_or layers k one).below) ahead)
    → c ≡ code (kind_at layers k) (standing_at now k).given (rest text (source_below layers k) now)
looked text layers k now ahead standing one other c tower h p lowest at is =
    let lower : (get_or layers k one).below ≤ length layers = omega (arith, tower.lower k h, below_number layers k one h, h) in
    is
    ∙ ap (λ x. code x standing.given (rest text (source_of layers (get_or layers k one).below) ahead)) (kind_is layers k other h)
    ∙ ap (λ (x : Standing). code (kind_at layers k) x.given (rest text (source_of layers (get_or layers k one).below) ahead)) (sym (standing_is now k standing at))
    ∙ ap (code (kind_at layers k) (standing_at now k).given) (copied text layers (get_or layers k one).below now ahead tower lower p lowest ∙ ap (λ s. rest text s now) (below_source layers k one h))

-- what a layer's code leaves, from what was found at its place

pub settled_not_at : (text : List ℕ) (k : ℕ) (kind : FilterKind) (below : Source) (call : Call) (reading : Reading) (standing : Standing) → slice_get reading.standings k ≡ Some standing
    → false ≡ is_spent standing → reading ≡ settled text k kind below call reading
settled_not_at text k kind below call reading standing at f = sym (settled_not text k kind below call reading (ap is_spent (standing_is reading k standing at) ∙ sym f))

pub settled_at : (text : List ℕ) (k : ℕ) (kind : FilterKind) (below : Source) (call : Call) (reading : Reading) (standing : Standing) (c : Code) → slice_get reading.standings k ≡ Some standing
    → true ≡ is_spent standing → c ≡ code kind (standing_at reading k).given (rest text below reading)
    → end_taken k kind (rest text below reading) call reading c ≡ settled text k kind below call reading
settled_at text k kind below call reading standing c at t e =
    sym (settled_is text k kind below call reading c (ap is_spent (standing_is reading k standing at) ∙ sym t) e)

pub taken_none : (text : List ℕ) (k : ℕ) (kind : FilterKind) (below : Source) (call : Call) (reading : Reading) (bytes : List ℕ) (taken : ℕ) → None ≡ slice_get bytes 0
    → code_taken text k kind below call reading (Gives bytes taken) ≡ (Bad, put k at_fault reading)
unfolding code_taken
taken_none text k kind below call reading [] taken h = refl
taken_none text k kind below call reading (b ∷ bs) taken h = absurd (cc)

begun_some : (text : List ℕ) (k : ℕ) (kind : FilterKind) (below : Source) (call : Call) (reading : Reading) (bytes : List ℕ) (taken b : ℕ) → Some b ≡ slice_get bytes 0
    → code_taken text k kind below call reading (Gives bytes taken)
    ≡ (Byte b, settled text k kind below call (put k (code_begun (standing_at reading k).given bytes) (taking (length_taken kind (rest text below reading) (Some taken)) call reading)))
unfolding code_taken
begun_some text k kind below call reading [] taken b h = absurd (cc)
begun_some text k kind below call reading (x ∷ bs) taken b h =
    let same : x ≡ b = cc in
    ap (λ y. (Byte y, settled text k kind below call (put k (code_begun (standing_at reading k).given (x ∷ bs)) (taking (length_taken kind (rest text below reading) (Some taken)) call reading)))) same

pub taken_some : (text : List ℕ) (k : ℕ) (kind : FilterKind) (below : Source) (call : Call) (reading middle new : Reading) (bytes : List ℕ) (taken b : ℕ) (standing begun : Standing) (standings : List Standing)
    → slice_get reading.standings k ≡ Some standing → Some b ≡ slice_get bytes 0
    → middle ≡ taking (length_taken kind (rest text below reading) (Some taken)) call reading → begun ≡ code_begun standing.given bytes
    → standings ≡ slice_set middle.standings k begun → new ≡ settled text k kind below call (record middle { standings = standings })
    → code_taken text k kind below call reading (Gives bytes taken) ≡ (Byte b, new)
taken_some text k kind below call reading middle new bytes taken b standing begun standings at some is begin held settles =
    let stands : begun ≡ code_begun (standing_at reading k).given bytes = begin ∙ ap (λ (x : Standing). code_begun x.given bytes) (sym (standing_is reading k standing at)) in
    let put_is : record middle { standings = standings } ≡ put k (code_begun (standing_at reading k).given bytes) middle =
    ap (λ (x : List Standing). record middle { standings = x }) held ∙ ap (λ x. put k x middle) stands
    in
    begun_some text k kind below call reading bytes taken b some
    ∙ ap (λ r. (Byte b, settled text k kind below call (put k (code_begun (standing_at reading k).given bytes) r))) (sym is)
    ∙ ap (λ (r : Reading). (Byte b, settled text k kind below call r)) (sym put_is)
    ∙ ap (λ (r : Reading). (Byte b, r)) (sym settles)

pub taken_end : (text : List ℕ) (k : ℕ) (kind : FilterKind) (below : Source) (call : Call) (reading : Reading) (n : ℕ)
    → code_taken text k kind below call reading (Ends n) ≡ (End, put k at_end (taking (length_taken kind (rest text below reading) (Some n)) call reading))
unfolding code_taken
taken_end text k kind below call reading n = refl

pub taken_all : (text : List ℕ) (k : ℕ) (kind : FilterKind) (below : Source) (call : Call) (reading : Reading)
    → code_taken text k kind below call reading EndsWithSource ≡ (End, put k at_end (taking (length_taken kind (rest text below reading) None) call reading))
unfolding code_taken
taken_all text k kind below call reading = refl

pub taken_wrong : (text : List ℕ) (k : ℕ) (kind : FilterKind) (below : Source) (call : Call) (reading : Reading) → code_taken text k kind below call reading Wrong ≡ (Bad, put k at_fault reading)
unfolding code_taken
taken_wrong text k kind below call reading = refl

-- bytes that are taken from the text

text_left : (text : List ℕ) (reading : Reading) → reading.place < length text
    → rest text the_text reading ≡ byte (slice_index text reading.place) (rest text the_text (record reading { place = reading.place + 1 }))
unfolding rest
text_left text reading lt = ap rest_of (drop-cons text reading.place 0 lt ∙ ap (λ n. slice_index text reading.place ∷ drop n text) (sym (add-one reading.place)))

text_called : (text : List ℕ) (reading : Reading) → reading.place < length text
    → give text the_text reading ≡ (Byte (slice_index text reading.place), record reading { place = reading.place + 1 })
unfolding give
text_called text reading lt = cond-true (nat_lt reading.place (length text)) _ (End, reading) (lt-ltb reading.place (length text) lt)

pub text_byte_taken : (text : List ℕ) (kind : FilterKind) (left after : Option ℕ) (old new : Reading) → old.place < length text → true ≡ takes_more left
    → after ≡ left_behind kind (slice_index text old.place) left → new ≡ record old { place = old.place + 1 }
    → taking (length_taken kind (rest text the_text new) after) (give text the_text) new ≡ taking (length_taken kind (rest text the_text old) left) (give text the_text) old
text_byte_taken text kind left after old new lt more e is =
    let b : ℕ = slice_index text old.place in
    let next : Reading = record old { place = old.place + 1 } in
    let n : ℕ = length_taken kind (rest text the_text next) (left_behind kind b left) in
    let count : length_taken kind (rest text the_text old) left ≡ suc n =
    let c = ap (λ x. length_taken kind x left) (text_left text old lt) ∙ length_behind kind b (rest text the_text next) left (sym more) in omega (arith, c)
    in
    ap (λ x. taking (length_taken kind (rest text the_text new) x) (give text the_text) new) e
    ∙ ap (λ r. taking (length_taken kind (rest text the_text r) (left_behind kind b left)) (give text the_text) r) is
    ∙ sym (ap (λ m. taking m (give text the_text) old) count ∙ ap (λ (x : Given × Reading). taking n (give text the_text) x.1) (text_called text old lt))

pub text_over : (text : List ℕ) (kind : FilterKind) (left : Option ℕ) (reading : Reading) → length text ≤ reading.place
    → reading ≡ taking (length_taken kind (rest text the_text reading) left) (give text the_text) reading
unfolding rest
text_over text kind left reading le =
    sym (none_to_take kind (rest_of (drop reading.place text)) left (give text the_text) reading (ap (λ xs. has_byte (rest_of xs)) (drop_of_length-le text le)))

pub text_all_taken : (text : List ℕ) (kind : FilterKind) (left : Option ℕ) (reading : Reading) → false ≡ takes_more left
    → reading ≡ taking (length_taken kind (rest text the_text reading) left) (give text the_text) reading
text_all_taken text kind left reading f = sym (all_taken kind (rest text the_text reading) left (give text the_text) reading (sym f))

-- a layer with bytes of a code has a byte to give
pub pending_has : (text : List ℕ) (layers : List FilterLayer) (source k : ℕ) (now : Reading) (standing : Standing) → IsTower layers → source ≤ length layers → source ≡ suc k
    → slice_get now.standings k ≡ Some standing → true ≡ has_pending standing → true ≡ has_byte (rest text (source_of layers source) now)
pending_has text layers source k now standing tower h e at some =
    let lt : standing.from < length standing.code = ltb-true standing.from (length standing.code) (sym some) in
    let bytes = drop-cons standing.code standing.from 0 lt in
    sym (ap (λ s. has_byte (rest text s now)) (source_up layers source k tower h e)
    ∙ ap has_byte (rest_over text k (kind_at layers k) (source_below layers k) now standing (standing_is now k standing at))
    ∙ ap (λ xs. has_byte (onto xs (behind_code (kind_at layers k) standing (rest text (source_below layers k) now)))) bytes)

-- what a layer over the text takes
pub taken_from_text : (text : List ℕ) (layers : List FilterLayer) (k : ℕ) (one other : FilterLayer) (taken : Option ℕ) (old new : Reading) → k < length layers
    → (get_or layers k one).below ≡ 0 → new ≡ taking (length_taken (get_or layers k other).kind (rest text the_text old) taken) (give text the_text) old
    → new ≡ taking (length_taken (kind_at layers k) (rest text (source_below layers k) old) taken) (give text (source_below layers k)) old
taken_from_text text layers k one other taken old new h z is =
    let source : the_text ≡ source_below layers k = sym (source_zero layers) ∙ ap (source_of layers) (sym z) ∙ below_source layers k one h in
    is ∙ ap (λ x. taking (length_taken x (rest text the_text old) taken) (give text the_text) old) (kind_is layers k other h)
    ∙ ap (λ s. taking (length_taken (kind_at layers k) (rest text s old) taken) (give text s) old) source

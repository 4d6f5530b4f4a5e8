-- Sources and what they would still give.
use Rattle.std.proofs.Common.{◌≡◌, ◌≢◌, ℕ, zero, suc, ◌+◌, ◌<◌, ◌≤◌, Bool, true, false, List, [], ◌∷◌, length, drop, get_or, refl, sym, ap, subst, ◌∙◌, arith, ⊎_elim, Some, None, add-one, drop_of_length-le}
use Rattle.std.specs.Prelude.{nat_lt, slice_index, if◌then◌else◌}
use Rattle.std.proofs.Math.Seq.{drop-cons}
use Rattle.std.proofs.lemmas.Bool.{cases_Bool, ltb-true, ltb-false}
use Rattle.std.specs.Prelude.{slice_get}
use Rattle.std.proofs.lemmas.Option.{get_or_from_slice_get, slice_get-get_or}
use Rattle.std.proofs.lemmas.List.{get_or-set_same, get_or-set_other}
use Rattle.filter_tower.specs.declared.tower.FilterKind.{FilterKind}
use Rattle.filter_tower.specs.declared.tower.FilterKind.TheVariants.{Hex}
use Rattle.filter_tower.specs.declared.tower.FilterLayer.{FilterLayer}
use Rattle.filter_tower.specs.declared.standing.FilterState.{FilterState}
use Rattle.filter_tower.specs.declared.standing.FilterState.TheVariants.{Open, Ended, Failed}
use Rattle.filter_tower.specs.declared.standing.Standing.{Standing}
use Rattle.filter_tower.specs.Layers.{IsTower, layer_at, below_at, kind_at}
use Rattle.data_filters.specs.declared.given.Given.{Given}
use Rattle.data_filters.specs.declared.given.Given.TheVariants.{Byte}
use Rattle.data_filters.specs.declared.code.Code.{Code}
use Rattle.data_filters.specs.declared.code.Code.TheVariants.{Gives, Ends, EndsWithSource, Wrong}
use Rattle.data_filters.specs.declared.code.Found.{Found}
use Rattle.data_filters.specs.declared.reading.Reading.{Reading}
use Rattle.data_filters.specs.Rests.{Rest, byte, ended, broken, rest_of, onto, Yields}
use Rattle.data_filters.specs.Codes.{code}
use Rattle.data_filters.specs.Decoded.{more_given, through, decoded}
use Rattle.data_filters.specs.Layers.{Source, the_text, over, source_within, source_of, pending, standing_at, put, at_end, at_fault, behind_code, still, rest, text_gives}
use Rattle.data_filters.specs.Found.{GivesPending, Finds, Leaves, begun}
use Rattle.data_filters.proofs.Readings.{standing_is}
use Rattle.data_filters.proofs.CodeLemmas.{IsSound, sound}
use Rattle.data_filters.proofs.DecodedLemmas.{decoded_through, later}

-- more steps down than the number change nothing
enough : (layers : List FilterLayer) → IsTower layers → (s t n : ℕ) → n ≤ s → n ≤ t → n ≤ length layers → source_within s layers n ≡ source_within t layers n
enough layers tower zero zero n h k l = refl
enough layers tower zero (suc t) zero h k l = refl
enough layers tower zero (suc t) (suc n) h k l = absurd (omega (arith, h))
enough layers tower (suc s) zero zero h k l = refl
enough layers tower (suc s) zero (suc n) h k l = absurd (omega (arith, k))
enough layers tower (suc s) (suc t) zero h k l = refl
enough layers tower (suc s) (suc t) (suc n) h k l =
    let lower : below_at layers n ≤ n = tower.lower n (omega (arith, l)) in
    ap (over n (kind_at layers n)) (enough layers tower s t (below_at layers n) (omega (arith, lower, h)) (omega (arith, lower, k)) (omega (arith, lower, l)))

pub source_zero : (layers : List FilterLayer) → source_of layers 0 ≡ the_text
unfolding source_of
source_zero layers = refl

pub source_over : (layers : List FilterLayer) (k : ℕ) → IsTower layers → k < length layers
    → source_of layers (suc k) ≡ over k (kind_at layers k) (source_of layers (below_at layers k))
unfolding source_of
source_over layers k tower h =
    let lower : below_at layers k ≤ k = tower.lower k h in
    ap (over k (kind_at layers k)) (enough layers tower k (below_at layers k) (below_at layers k) lower (omega arith) (omega (arith, lower, h)))

-- the places of a source and of those below it
abbrev pub IsBelow : ℕ → Source → Type 0
IsBelow n the_text = Unit {0}
IsBelow n (over k kind below) = (k < n) × IsBelow k below

below_longer : (m n : ℕ) (source : Source) → m ≤ n → IsBelow m source → IsBelow n source
below_longer m n the_text h b = tt
below_longer m n (over k kind below) h b = (omega (arith, h, b.0), b.1)

within_is_below : (layers : List FilterLayer) → IsTower layers → (s n : ℕ) → n ≤ length layers → IsBelow n (source_within s layers n)
within_is_below layers tower zero n h = tt
within_is_below layers tower (suc s) zero h = tt
within_is_below layers tower (suc s) (suc k) h =
    let lower : below_at layers k ≤ k = tower.lower k (omega (arith, h)) in
    (omega arith, below_longer (below_at layers k) k (source_within s layers (below_at layers k)) lower (within_is_below layers tower s (below_at layers k) (omega (arith, lower, h))))

pub source_is_below : (layers : List FilterLayer) (n : ℕ) → IsTower layers → n ≤ length layers → IsBelow n (source_of layers n)
unfolding source_of
source_is_below layers n tower h = within_is_below layers tower n n h

-- what a source would give rests on the text's place and on where it and those below it stand
pub rest_agree : (text : List ℕ) (source : Source) (n : ℕ) (a b : Reading) → IsBelow n source → a.place ≡ b.place
    → ((k : ℕ) → k < n → standing_at a k ≡ standing_at b k) → rest text source a ≡ rest text source b
unfolding rest
rest_agree text the_text n a b h p s = ap (λ k. rest_of (drop k text)) p
rest_agree text (over k kind below) n a b h p s =
    ap (λ x. still kind x (rest text below a)) (s k h.0)
    ∙ ap (still kind (standing_at b k)) (rest_agree text below k a b h.1 p (λ j lt. s j (omega (arith, lt, h.0))))

pub standing_other : (reading : Reading) (k j : ℕ) (standing : Standing) → j < k → standing_at (put k standing reading) j ≡ standing_at reading j
standing_other reading k j standing h =
    let other : j ≢ k = λ e. omega (arith, h, e) in get_or-set_other reading.standings k j standing at_end other

pub standing_same : (reading : Reading) (k : ℕ) (standing : Standing) → k < length reading.standings → standing_at (put k standing reading) k ≡ standing
standing_same reading k standing h = get_or-set_same reading.standings k standing at_end h

pub rest_put : (text : List ℕ) (source : Source) (k : ℕ) (reading : Reading) (standing : Standing) → IsBelow k source
    → rest text source (put k standing reading) ≡ rest text source reading
rest_put text source k reading standing h =
    rest_agree text source k (put k standing reading) reading h refl (λ j lt. standing_other reading k j standing lt)

-- where a layer's standing is known
pub rest_over : (text : List ℕ) (k : ℕ) (kind : FilterKind) (below : Source) (reading : Reading) (standing : Standing) → standing_at reading k ≡ standing
    → rest text (over k kind below) reading ≡ still kind standing (rest text below reading)
unfolding rest
rest_over text k kind below reading standing e = ap (λ x. still kind x (rest text below reading)) e

pub rest_over_put : (text : List ℕ) (k : ℕ) (kind : FilterKind) (below : Source) (reading : Reading) (standing : Standing) → IsBelow k below → k < length reading.standings
    → rest text (over k kind below) (put k standing reading) ≡ still kind standing (rest text below reading)
rest_over_put text k kind below reading standing b h =
    rest_over text k kind below (put k standing reading) standing (standing_same reading k standing h)
    ∙ ap (still kind standing) (rest_put text below k reading standing b)

-- the text's next byte
text_call : (text : List ℕ) (reading : Reading) → Yields (rest text the_text reading) (text_gives text reading).0 (rest text the_text (text_gives text reading).1)
unfolding rest
text_call text reading =
    ⊎_elim
    (λ (t : nat_lt reading.place (length text) ≡ true). rw t (
    let lt : reading.place < length text = ltb-true reading.place (length text) t in
    ap rest_of (drop-cons text reading.place 0 lt ∙ ap (λ n. slice_index text reading.place ∷ drop n text) (sym (add-one reading.place)))))
    (λ (f : nat_lt reading.place (length text) ≡ false). rw f (
    let le : length text ≤ reading.place = ltb-false reading.place (length text) f in
    let none : rest_of (drop reading.place text) ≡ ended = ap rest_of (drop_of_length-le text le) in
    (none, none)))
    (cases_Bool (nat_lt reading.place (length text)))

pub text_yields : (text : List ℕ) (old new : Reading) (g : Given) → text_gives text old ≡ (g, new) → Yields (rest text the_text old) g (rest text the_text new)
text_yields text old new g e =
    subst (λ (x : Given × Reading). Yields (rest text the_text old) x.0 (rest text the_text x.1)) e (text_call text old)

-- a byte of the layer's newest code
pub pending_yields : (text : List ℕ) (k b : ℕ) (kind : FilterKind) (below : Source) (old new : Reading) → IsBelow k below → k < length old.standings
    → GivesPending k old (Some b) new → Yields (rest text (over k kind below) old) (Byte b) (rest text (over k kind below) new)
pending_yields text k b kind below old new h l p =
    let s = standing_at old k in
    rest_over text k kind below old s refl
    ∙ ap (λ x. onto x (behind_code kind s (rest text below old))) p.0
    ∙ ap (byte b) (sym (ap (rest text (over k kind below)) p.1 ∙ rest_over_put text k kind below old (record s { from = s.from + 1 }) h l))

pub rest_ended : (text : List ℕ) (k : ℕ) (kind : FilterKind) (below : Source) (reading : Reading) → pending (standing_at reading k) ≡ [] → (standing_at reading k).state ≡ Ended
    → rest text (over k kind below) reading ≡ ended
rest_ended text k kind below reading p s =
    rest_over text k kind below reading (standing_at reading k) refl
    ∙ ap (λ x. onto x (behind_code kind (standing_at reading k) (rest text below reading))) p
    ∙ ap (λ (x : FilterState). elim x [ Open ↦ decoded kind (standing_at reading k).given 0 (rest text below reading) | Ended ↦ ended | Failed ↦ broken ]) s

pub rest_failed : (text : List ℕ) (k : ℕ) (kind : FilterKind) (below : Source) (reading : Reading) → pending (standing_at reading k) ≡ [] → (standing_at reading k).state ≡ Failed
    → rest text (over k kind below) reading ≡ broken
rest_failed text k kind below reading p s =
    rest_over text k kind below reading (standing_at reading k) refl
    ∙ ap (λ x. onto x (behind_code kind (standing_at reading k) (rest text below reading))) p
    ∙ ap (λ (x : FilterState). elim x [ Open ↦ decoded kind (standing_at reading k).given 0 (rest text below reading) | Ended ↦ ended | Failed ↦ broken ]) s

pub rest_open : (text : List ℕ) (k : ℕ) (kind : FilterKind) (below : Source) (reading : Reading) → pending (standing_at reading k) ≡ [] → (standing_at reading k).state ≡ Open
    → rest text (over k kind below) reading ≡ decoded kind (standing_at reading k).given 0 (rest text below reading)
rest_open text k kind below reading p s =
    rest_over text k kind below reading (standing_at reading k) refl
    ∙ ap (λ x. onto x (behind_code kind (standing_at reading k) (rest text below reading))) p
    ∙ ap (λ (x : FilterState). elim x [ Open ↦ decoded kind (standing_at reading k).given 0 (rest text below reading) | Ended ↦ ended | Failed ↦ broken ]) s

-- behind a code that was read ahead
behind_cut : (kind : FilterKind) (bytes : List ℕ) (given : ℕ) (is_cut : Bool) (source : Rest)
    → behind_code kind (record { code = bytes; from = 1; given = given; state = if is_cut then Ended else Open }) source ≡ (if is_cut then ended else decoded kind given 0 source)
behind_cut kind bytes given true source = refl
behind_cut kind bytes given false source = refl

-- a code that was read ahead
begun_call : (text : List ℕ) (k so_far : ℕ) (kind : FilterKind) (below : Source) (source : Rest) (middle : Reading) (c : Code) (is_cut : Bool) → IsBelow k below → k < length middle.standings
    → IsSound c → Leaves kind source c is_cut (rest text below middle)
    → Yields (through c (later kind so_far source)) (begun k so_far is_cut middle c).0 (rest text (over k kind below) (begun k so_far is_cut middle c).1)
begun_call text k so_far kind below source middle (Gives [] taken) is_cut b l s leaves = absurd s
begun_call text k so_far kind below source middle (Gives (x ∷ xs) taken) is_cut b l s leaves =
    let given = more_given so_far (length (x ∷ xs)) in
    let standing : Standing = record { code = x ∷ xs; from = 1; given = given; state = if is_cut then Ended else Open } in
    ap (λ r. byte x (onto xs r)) (leaves given ∙ sym (behind_cut kind (x ∷ xs) given is_cut (rest text below middle)))
    ∙ ap (byte x) (sym (rest_over_put text k kind below middle standing b l))
begun_call text k so_far kind below source middle (Ends taken) is_cut b l s leaves = (refl, rest_over_put text k kind below middle at_end b l)
begun_call text k so_far kind below source middle EndsWithSource is_cut b l s leaves = (refl, rest_over_put text k kind below middle at_end b l)
begun_call text k so_far kind below source middle Wrong is_cut b l s leaves = (refl, rest_over_put text k kind below middle at_fault b l)

pub begun_yields : (text : List ℕ) (k : ℕ) (kind : FilterKind) (below : Source) (old middle new : Reading) (c : Code) (is_cut : Bool) (g : Given) → IsBelow k below → k < length middle.standings
    → pending (standing_at old k) ≡ [] → (standing_at old k).state ≡ Open
    → c ≡ code kind (standing_at old k).given (rest text below old) → Leaves kind (rest text below old) c is_cut (rest text below middle)
    → begun k (standing_at old k).given is_cut middle c ≡ (g, new)
    → Yields (rest text (over k kind below) old) g (rest text (over k kind below) new)
begun_yields text k kind below old middle new c is_cut g b l p s e leaves is =
    let so_far = (standing_at old k).given in
    let source = rest text below old in
    let whole : rest text (over k kind below) old ≡ through c (later kind so_far source) =
    rest_open text k kind below old p s ∙ decoded_through kind so_far source ∙ ap (λ x. through x (later kind so_far source)) (sym e)
    in
    subst (λ r. Yields r g (rest text (over k kind below) new)) (sym whole)
    (subst (λ (x : Given × Reading). Yields (through c (later kind so_far source)) x.0 (rest text (over k kind below) x.1)) is
    (begun_call text k so_far kind below source middle c is_cut b l (subst IsSound (sym e) (sound kind so_far source)) leaves))

-- what is read ahead of a source, by its number

pub source_up : (layers : List FilterLayer) (source k : ℕ) → IsTower layers → source ≤ length layers → source ≡ suc k
    → source_of layers source ≡ over k (kind_at layers k) (source_of layers (below_at layers k))
source_up layers source k tower h e =
    let lt : k < length layers = omega (arith, h, e) in
    ap (source_of layers) e ∙ source_over layers k tower lt

pub text_rest : (text : List ℕ) (layers : List FilterLayer) (source : ℕ) (reading : Reading) → source ≡ 0
    → rest text (source_of layers source) reading ≡ rest_of (drop reading.place text)
unfolding rest
text_rest text layers source reading z = ap (λ s. rest text s reading) (ap (source_of layers) z ∙ source_zero layers)

pub reads_text : (text : List ℕ) (layers : List FilterLayer) (source : ℕ) (old new : Reading) (g : Given) → source ≡ 0 → text_gives text old ≡ (g, new)
    → Yields (rest text (source_of layers source) old) g (rest text (source_of layers source) new)
reads_text text layers source old new g z e =
    let is : source_of layers source ≡ the_text = ap (source_of layers) z ∙ source_zero layers in
    subst (λ s. Yields (rest text s old) g (rest text s new)) (sym is) (text_yields text old new g e)

pub below_is : (layers : List FilterLayer) (k : ℕ) → IsTower layers → k < length layers → IsBelow k (source_of layers (below_at layers k))
below_is layers k tower h =
    let lower : below_at layers k ≤ k = tower.lower k h in
    below_longer (below_at layers k) k (source_of layers (below_at layers k)) lower (source_is_below layers (below_at layers k) tower (omega (arith, lower, h)))

pub reads_pending : (text : List ℕ) (layers : List FilterLayer) (source k b : ℕ) (old new : Reading) → IsTower layers → source ≤ length layers → source ≡ suc k
    → length layers ≤ length old.standings → GivesPending k old (Some b) new
    → rest text (source_of layers source) old ≡ byte b (rest text (source_of layers source) new)
reads_pending text layers source k b old new tower h e room p =
    let lt : k < length layers = omega (arith, h, e) in
    let held : k < length old.standings = omega (arith, lt, room) in
    subst (λ s. rest text s old ≡ byte b (rest text s new)) (sym (source_up layers source k tower h e))
    (pending_yields text k b (kind_at layers k) (source_of layers (below_at layers k)) old new (below_is layers k tower lt) held p)

pub reads_ended : (text : List ℕ) (layers : List FilterLayer) (source k : ℕ) (old new : Reading) (standing : Standing) → IsTower layers → source ≤ length layers → source ≡ suc k
    → GivesPending k old None new → slice_get new.standings k ≡ Some standing → standing.state ≡ Ended
    → (rest text (source_of layers source) old ≡ ended) × (rest text (source_of layers source) new ≡ ended)
reads_ended text layers source k old new standing tower h e p at state =
    let at_new : slice_get old.standings k ≡ Some standing = ap (λ (r : Reading). slice_get r.standings k) (sym p.1) ∙ at in
    let is : rest text (source_of layers source) old ≡ ended =
    ap (λ s. rest text s old) (source_up layers source k tower h e)
    ∙ rest_ended text k (kind_at layers k) (source_of layers (below_at layers k)) old p.0 (ap (λ (x : Standing). x.state) (standing_is old k standing at_new) ∙ state)
    in
    (is, ap (rest text (source_of layers source)) p.1 ∙ is)

pub reads_failed : (text : List ℕ) (layers : List FilterLayer) (source k : ℕ) (old new : Reading) (standing : Standing) → IsTower layers → source ≤ length layers → source ≡ suc k
    → GivesPending k old None new → slice_get new.standings k ≡ Some standing → standing.state ≡ Failed
    → (rest text (source_of layers source) old ≡ broken) × (rest text (source_of layers source) new ≡ broken)
reads_failed text layers source k old new standing tower h e p at state =
    let at_new : slice_get old.standings k ≡ Some standing = ap (λ (r : Reading). slice_get r.standings k) (sym p.1) ∙ at in
    let is : rest text (source_of layers source) old ≡ broken =
    ap (λ s. rest text s old) (source_up layers source k tower h e)
    ∙ rest_failed text k (kind_at layers k) (source_of layers (below_at layers k)) old p.0 (ap (λ (x : Standing). x.state) (standing_is old k standing at_new) ∙ state)
    in
    (is, ap (rest text (source_of layers source)) p.1 ∙ is)

-- the layer at a place, whatever stands in for one that isn't there
pub layer_is : (layers : List FilterLayer) (k : ℕ) (other : FilterLayer) → k < length layers → layer_at layers k ≡ get_or layers k other
layer_is layers k other h =
    get_or_from_slice_get layers k (get_or layers k other) (record { below = 0; kind = Hex }) (slice_get-get_or layers k other h)

pub reads_code : (text : List ℕ) (layers : List FilterLayer) (source k : ℕ) (old held middle new : Reading) (found : Found) (g : Given) (standing : Standing) (one other : FilterLayer)
    → IsTower layers → source ≤ length layers → source ≡ suc k → length layers ≤ length old.standings → GivesPending k old None held
    → slice_get held.standings k ≡ Some standing → standing.state ≡ Open
    → Finds (get_or layers k other).kind standing.given (rest text (source_of layers (get_or layers k one).below) held) found
    (rest text (source_of layers (get_or layers k one).below) middle)
    → length middle.standings ≡ length held.standings → begun k standing.given found.is_cut middle found.code ≡ (g, new)
    → Yields (rest text (source_of layers source) old) g (rest text (source_of layers source) new)
reads_code text layers source k old held middle new found g standing one other tower h e room p at state finds same is =
    let lt : k < length layers = omega (arith, h, e) in
    let kind : FilterKind = kind_at layers k in
    let below : Source = source_of layers (below_at layers k) in
    let at_old : slice_get old.standings k ≡ Some standing = ap (λ (r : Reading). slice_get r.standings k) (sym p.1) ∙ at in
    let stands : standing_at old k ≡ standing = standing_is old k standing at_old in
    let kind_is : (get_or layers k other).kind ≡ kind = ap (λ (x : FilterLayer). x.kind) (sym (layer_is layers k other lt)) in
    let below_same : source_of layers (get_or layers k one).below ≡ below = ap (λ (x : FilterLayer). source_of layers x.below) (sym (layer_is layers k one lt)) in
    let given_is : standing.given ≡ (standing_at old k).given = ap (λ (x : Standing). x.given) (sym stands) in
    let room_then : k < length middle.standings =
    let lengths : length held.standings ≡ length old.standings = ap (λ (r : Reading). length r.standings) p.1 in omega (arith, lt, room, same, lengths)
    in
    let found_old : Finds kind (standing_at old k).given (rest text below old) found (rest text below middle) =
    subst (λ x. Finds x (standing_at old k).given (rest text below old) found (rest text below middle)) kind_is
    (subst (λ n. Finds (get_or layers k other).kind n (rest text below old) found (rest text below middle)) given_is
    (subst (λ r. Finds (get_or layers k other).kind standing.given (rest text below r) found (rest text below middle)) p.1
    (subst (λ s. Finds (get_or layers k other).kind standing.given (rest text s held) found (rest text s middle)) below_same finds)))
    in
    subst (λ s. Yields (rest text s old) g (rest text s new)) (sym (source_up layers source k tower h e))
    (begun_yields text k kind below old middle new found.code found.is_cut g (below_is layers k tower lt) room_then p.0
    (ap (λ (x : Standing). x.state) stands ∙ state) found_old.code_is found_old.leaves
    (ap (λ n. begun k n found.is_cut middle found.code) (sym given_is) ∙ is))

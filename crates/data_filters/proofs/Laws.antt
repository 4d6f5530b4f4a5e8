-- What holds of filters.
use Rattle.std.proofs.Common.{◌≡◌, ℕ, zero, suc, ◌+◌, ◌*◌, ◌/◌, ◌%◌, ◌<◌, ◌≤◌, true, false, List, [], ◌∷◌, length, drop, refl, sym, ap, ◌∙◌, arith}
use Rattle.std.specs.Prelude.{◌==◌, nat_lt, All}
use Rattle.std.specs.Char.{digit_value}
use Rattle.std.proofs.lemmas.Bool.{cond-true, cond-false, lt-ltb}
use Rattle.filter_tower.specs.declared.tower.FilterKind.TheVariants.{Hex}
use Rattle.filter_tower.specs.declared.tower.FilterLayer.{FilterLayer}
use Rattle.filter_tower.specs.declared.standing.FilterState.TheVariants.{Open}
use Rattle.filter_tower.specs.Layers.{IsTower, below_at, kind_at, empty_standing}
use Rattle.data_filters.specs.declared.given.Given.{Given}
use Rattle.data_filters.specs.declared.given.Given.TheVariants.{Byte, End, Bad}
use Rattle.data_filters.specs.declared.code.Code.TheVariants.{Gives, Wrong}
use Rattle.data_filters.specs.declared.reading.Reading.{Reading}
use Rattle.data_filters.specs.Rests.{Rest, byte, ended, rest_of, onto, Yields}
use Rattle.data_filters.specs.Codes.{is_white, past_white, second_digit, code}
use Rattle.data_filters.specs.Decoded.{decoded, filtered, more_given, through}
use Rattle.data_filters.specs.Layers.{Source, Call, source_of, source_below, standing_at, rest, give}
use Rattle.data_filters.specs.Law.{answer, given_at, GivesItsRest, GivesFilteredText, digit_of, spelled, ComesBack}
use Rattle.data_filters.proofs.CodeLemmas.{behind_one}
use Rattle.data_filters.proofs.DecodedLemmas.{decoded_through, later}
use Rattle.data_filters.proofs.FoundLemmas.{first_is, end_is_no_digit}
use Rattle.data_filters.proofs.SourceLemmas.{source_is_below, source_up, rest_over, text_rest}
use Rattle.data_filters.proofs.GiveLemmas.{GoesOn, give_goes}

-- the first answer, and the others
at_first : (old new : Rest) (g : Given) → Yields old g new → g ≡ given_at 0 old
at_first old new (Byte b) h = ap (given_at 0) (sym h)
at_first old new End h = ap (given_at 0) (sym h.0)
at_first old new Bad h = ap (given_at 0) (sym h.0)

at_next : (n : ℕ) (old new : Rest) (g : Given) → Yields old g new → given_at n new ≡ given_at (suc n) old
at_next n old new (Byte b) h = ap (given_at (suc n)) (sym h)
at_next n old new End h = ap (given_at n) h.1 ∙ ap (given_at (suc n)) (sym h.0)
at_next n old new Bad h = ap (given_at n) h.1 ∙ ap (given_at (suc n)) (sym h.0)

answers : (text : List ℕ) (source : Source) (m : ℕ) (call : Call) → GoesOn text source m call → (n : ℕ) (reading : Reading) → m ≤ length reading.standings
    → answer n call reading ≡ given_at n (rest text source reading)
answers text source m call goes zero reading h = let one = goes reading h in at_first (rest text source reading) (rest text source (call reading).1) (call reading).0 one.yields
answers text source m call goes (suc n) reading h =
    let one = goes reading h in
    answers text source m call goes n (call reading).1 (omega (arith, h, one.same))
    ∙ at_next n (rest text source reading) (rest text source (call reading).1) (call reading).0 one.yields

pub gives_its_rest : (text : List ℕ) (layers : List FilterLayer) (layer : ℕ) (reading : Reading) → GivesItsRest text layers layer reading
gives_its_rest text layers layer reading tower h room n =
    answers text (source_of layers layer) layer (give text (source_of layers layer)) (give_goes text (source_of layers layer) layer (source_is_below layers layer tower h)) n reading (omega (arith, h, room))

-- what a layer that has given nothing would give
fresh_rest : (text : List ℕ) (layers : List FilterLayer) (k : ℕ) (reading : Reading) → IsTower layers → k < length layers → below_at layers k ≡ 0 → standing_at reading k ≡ empty_standing Open
    → rest text (source_of layers (k + 1)) reading ≡ filtered (kind_at layers k) (drop reading.place text)
fresh_rest text layers k reading tower h z fresh =
    let up : k + 1 ≡ suc k = omega arith in
    let within : k + 1 ≤ length layers = omega (arith, h) in
    ap (λ s. rest text s reading) (source_up layers (k + 1) k tower within up)
    ∙ rest_over text k (kind_at layers k) (source_below layers k) reading (empty_standing Open) fresh
    ∙ ap (decoded (kind_at layers k) 0 0) (text_rest text layers (below_at layers k) reading z)

pub gives_filtered_text : (text : List ℕ) (layers : List FilterLayer) (k : ℕ) (reading : Reading) → GivesFilteredText text layers k reading
gives_filtered_text text layers k reading tower h room z fresh n =
    gives_its_rest text layers (k + 1) reading tower (omega (arith, h)) room n ∙ ap (given_at n) (fresh_rest text layers k reading tower h z fresh)

-- digits
digit_back : (n : ℕ) → n < 16 → (digit_value (digit_of n) ≡ n) × (is_white (digit_of n) ≡ false)
digit_back zero h = (refl, refl)
digit_back (suc zero) h = (refl, refl)
digit_back (suc (suc zero)) h = (refl, refl)
digit_back (suc (suc (suc zero))) h = (refl, refl)
digit_back (suc (suc (suc (suc zero)))) h = (refl, refl)
digit_back (suc (suc (suc (suc (suc zero))))) h = (refl, refl)
digit_back (suc (suc (suc (suc (suc (suc zero)))))) h = (refl, refl)
digit_back (suc (suc (suc (suc (suc (suc (suc zero))))))) h = (refl, refl)
digit_back (suc (suc (suc (suc (suc (suc (suc (suc zero)))))))) h = (refl, refl)
digit_back (suc (suc (suc (suc (suc (suc (suc (suc (suc zero))))))))) h = (refl, refl)
digit_back (suc (suc (suc (suc (suc (suc (suc (suc (suc (suc zero)))))))))) h = (refl, refl)
digit_back (suc (suc (suc (suc (suc (suc (suc (suc (suc (suc (suc zero))))))))))) h = (refl, refl)
digit_back (suc (suc (suc (suc (suc (suc (suc (suc (suc (suc (suc (suc zero)))))))))))) h = (refl, refl)
digit_back (suc (suc (suc (suc (suc (suc (suc (suc (suc (suc (suc (suc (suc zero))))))))))))) h = (refl, refl)
digit_back (suc (suc (suc (suc (suc (suc (suc (suc (suc (suc (suc (suc (suc (suc zero)))))))))))))) h = (refl, refl)
digit_back (suc (suc (suc (suc (suc (suc (suc (suc (suc (suc (suc (suc (suc (suc (suc zero))))))))))))))) h = (refl, refl)
digit_back (suc (suc (suc (suc (suc (suc (suc (suc (suc (suc (suc (suc (suc (suc (suc (suc n)))))))))))))))) h = absurd (omega (arith, h))

hex_code : (a b : ℕ) (r : Rest) → a < 16 → b < 16 → (g : ℕ) → decoded Hex g 0 (byte (digit_of a) (byte (digit_of b) r)) ≡ byte (a * 16 + b) (decoded Hex (more_given g 1) 0 r)
hex_code a b r h k g =
    let old : Rest = byte (digit_of a) (byte (digit_of b) r) in
    let middle : Rest = byte (digit_of b) r in
    let first = digit_back a h in
    let second = digit_back b k in
    let at_first : past_white old ≡ byte (digit_of a) middle = cond-false (is_white (digit_of a)) _ _ first.1 in
    let at_second : past_white middle ≡ byte (digit_of b) r = cond-false (is_white (digit_of b)) _ _ second.1 in
    let first_below : nat_lt (digit_value (digit_of a)) 16 ≡ true = lt-ltb (digit_value (digit_of a)) 16 (omega (arith, first.0, h)) in
    let second_below : nat_lt (digit_value (digit_of b)) 16 ≡ true = lt-ltb (digit_value (digit_of b)) 16 (omega (arith, second.0, k)) in
    let is : code Hex g old ≡ Gives ((a * 16 + b) ∷ []) 2 =
    first_is (digit_of a) old middle at_first first_below
    ∙ ap (second_digit (digit_value (digit_of a))) at_second
    ∙ cond-false (digit_of b == 62) _ _ (end_is_no_digit (digit_of b) second_below)
    ∙ cond-true (nat_lt (digit_value (digit_of b)) 16) _ Wrong second_below
    ∙ ap (λ n. Gives ((n * 16 + digit_value (digit_of b)) ∷ []) 2) first.0
    ∙ ap (λ n. Gives ((a * 16 + n) ∷ []) 2) second.0
    in
    decoded_through Hex g old ∙ ap (λ c. through c (later Hex g old)) is
    ∙ ap (λ x. byte (a * 16 + b) (decoded Hex (more_given g 1) 0 x)) (behind_one 1 old middle (digit_of a) at_first ∙ behind_one 0 middle r (digit_of b) at_second)

all_back : (g : ℕ) (bytes : List ℕ) → All (λ b. b < 256) bytes → decoded Hex g 0 (rest_of (spelled bytes)) ≡ onto bytes ended
all_back g [] h = decoded_through Hex g (rest_of (spelled []))
all_back g (b ∷ bs) h =
    let small : b < 256 = h 0 0 (omega arith) in
    let high : b / 16 < 16 = omega (arith, small) in
    let low : b % 16 < 16 = omega arith in
    let whole : b / 16 * 16 + b % 16 ≡ b = omega arith in
    hex_code (b / 16) (b % 16) (rest_of (spelled bs)) high low g
    ∙ ap (λ n. byte n (decoded Hex (more_given g 1) 0 (rest_of (spelled bs)))) whole
    ∙ ap (byte b) (all_back (more_given g 1) bs (λ k d lt. h (suc k) d (omega (arith, lt))))

pub comes_back : (bytes : List ℕ) → ComesBack bytes
comes_back bytes h = all_back 0 bytes h

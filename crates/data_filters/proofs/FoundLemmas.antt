-- What is found where a code is read ahead is the code.
use Rattle.std.proofs.Common.{◌≡◌, ℕ, zero, suc, ◌+◌, ◌-◌, ◌*◌, ◌^◌, ◌<◌, ◌≤◌, Bool, true, false, [], ◌∷◌, take, refl, sym, ap, subst, ◌∙◌, arith, lit≤, lit<, ⊎_elim}
use Rattle.std.specs.Prelude.{◌==◌, ◌&&◌, nat_lt, cond, if◌then◌else◌}
use Rattle.std.specs.Char.{digit_value}
use Rattle.std.proofs.lemmas.Bool.Decides.{nat_tests}
use Rattle.std.proofs.lemmas.Bool.{cases_Bool, cond-true, cond-false, eqb-true, lt-ltb}
use Rattle.filter_tower.specs.declared.tower.FilterKind.{FilterKind}
use Rattle.filter_tower.specs.declared.tower.FilterKind.TheVariants.{Hex, Base85}
use Rattle.data_filters.specs.declared.given.Given.{Given}
use Rattle.data_filters.specs.declared.given.Given.TheVariants.{Byte, End, Bad}
use Rattle.data_filters.specs.declared.code.Code.{Code}
use Rattle.data_filters.specs.declared.code.Code.TheVariants.{Gives, Ends, EndsWithSource, Wrong}
use Rattle.data_filters.specs.Rests.{Rest, byte, ended, broken, behind, Yields}
use Rattle.data_filters.specs.Codes.{is_white, past_white, second_digit, first_digit, is_character, word_of, padded, cut_group, tilde, character, group, code}
use Rattle.data_filters.specs.Decoded.{through, decoded}
use Rattle.data_filters.specs.Found.{Leaves, Finds, whole, cut, without_digit, behind_digit, without_character, behind_tilde}
use Rattle.data_filters.proofs.CodeLemmas.{behind_one}
use Rattle.data_filters.proofs.DecodedLemmas.{decoded_through, ended_through}

-- a code that gives nothing leaves nothing to be said
abbrev GivesNone : Code → Type 0
GivesNone (Gives bytes taken) = ⊥
GivesNone (Ends taken) = Unit {0}
GivesNone EndsWithSource = Unit {0}
GivesNone Wrong = Unit {0}

none_left : (kind : FilterKind) (old new : Rest) (c : Code) (is_cut : Bool) → GivesNone c → Leaves kind old c is_cut new
none_left kind old new (Gives bytes taken) is_cut h = absurd h
none_left kind old new (Ends taken) is_cut h = tt
none_left kind old new EndsWithSource is_cut h = tt
none_left kind old new Wrong is_cut h = tt

-- where the next code is an end, all that is decoded is over
abbrev IsEnd : Code → Type 0
IsEnd (Gives bytes taken) = ⊥
IsEnd (Ends taken) = Unit {0}
IsEnd EndsWithSource = Unit {0}
IsEnd Wrong = ⊥

through_end : (c : Code) (f : ℕ → ℕ → Rest) → IsEnd c → through c f ≡ ended
through_end (Gives bytes taken) f h = absurd h
through_end (Ends taken) f h = refl
through_end EndsWithSource f h = refl
through_end Wrong f h = absurd h

over : (kind : FilterKind) (r : Rest) → ((so_far : ℕ) → IsEnd (code kind so_far r)) → (so_far : ℕ) → decoded kind so_far 0 r ≡ ended
over kind r h so_far = decoded_through kind so_far r ∙ through_end (code kind so_far r) _ (h so_far)

-- a choice between codes that give nothing
none_chosen : (t : Bool) (x y : Code) → GivesNone x → GivesNone y → GivesNone (cond t x y)
none_chosen true x y h k = h
none_chosen false x y h k = k

-- more bytes than some
behind_ended : (passed : ℕ → Bool) (n : ℕ) → behind passed n ended ≡ ended
behind_ended passed zero = refl
behind_ended passed (suc n) = refl

behind_broken : (passed : ℕ → Bool) (n : ℕ) → behind passed n broken ≡ broken
behind_broken passed zero = refl
behind_broken passed (suc n) = refl

pub behind_more : (passed : ℕ → Bool) (n : ℕ) (r : Rest) → behind passed (suc n) r ≡ behind passed 1 (behind passed n r)
behind_more passed zero r = refl
behind_more passed (suc n) (byte b r) =
    ⊎_elim
    (λ t. rw t (behind_more passed (suc n) r))
    (λ f. rw f (behind_more passed n r))
    (cases_Bool (passed b))
behind_more passed (suc n) ended = refl
behind_more passed (suc n) broken = refl

pub decoded_ended : (kind : FilterKind) (so_far : ℕ) → decoded kind so_far 0 ended ≡ ended
decoded_ended kind so_far = decoded_through kind so_far ended ∙ ended_through kind so_far _

-- hexadecimal digits

abbrev IsNoDigit : Given → Type 0
IsNoDigit (Byte b) = nat_lt (digit_value b) 16 ≡ false
IsNoDigit End = Unit {0}
IsNoDigit Bad = Unit {0}

pub finds_no_digit : (so_far : ℕ) (old new : Rest) (g : Given) → IsNoDigit g → Yields (past_white old) g new → Finds Hex so_far old (without_digit g) new
finds_no_digit so_far old new (Byte b) h y =
    record {
      code_is = sym (ap first_digit y ∙ ap (λ (c : Code). cond (b == 62) (Ends 1) c) (cond-false (nat_lt (digit_value b) 16) (second_digit (digit_value b) (past_white new)) Wrong h));
      leaves = none_left Hex old new (cond (b == 62) (Ends 1) Wrong) false (none_chosen (b == 62) (Ends 1) Wrong tt tt);
    }
finds_no_digit so_far old new End h y = record { code_is = sym (ap first_digit y.0); leaves = tt }
finds_no_digit so_far old new Bad h y = record { code_is = sym (ap first_digit y.0); leaves = tt }

-- `>` is no digit
pub end_is_no_digit : (b : ℕ) → nat_lt (digit_value b) 16 ≡ true → (b == 62) ≡ false
end_is_no_digit b h =
    ⊎_elim
    (λ t. absurd (let e : b ≡ 62 = eqb-true b 62 t in let no : true ≡ false = sym h ∙ ap (λ n. nat_lt (digit_value n) 16) e in cc))
    (λ f. f)
    (cases_Bool (b == 62))

pub first_is : (first : ℕ) (old middle : Rest) → past_white old ≡ byte first middle → nat_lt (digit_value first) 16 ≡ true
    → first_digit (past_white old) ≡ second_digit (digit_value first) (past_white middle)
first_is first old middle y h =
    ap first_digit y
    ∙ cond-false (first == 62) (Ends 1) (cond (nat_lt (digit_value first) 16) (second_digit (digit_value first) (past_white middle)) Wrong) (end_is_no_digit first h)
    ∙ cond-true (nat_lt (digit_value first) 16) (second_digit (digit_value first) (past_white middle)) Wrong h

-- a digit before the end
finds_cut_digit : (so_far first : ℕ) (old middle new : Rest) → past_white old ≡ byte first middle → nat_lt (digit_value first) 16 ≡ true
    → second_digit (digit_value first) (past_white middle) ≡ Gives ((digit_value first * 16) ∷ []) 1 → IsEnd (first_digit (past_white middle))
    → Finds Hex so_far old (cut (Gives ((digit_value first * 16) ∷ []) 1)) new
finds_cut_digit so_far first old middle new y h e end =
    record {
      code_is = sym (first_is first old middle y h ∙ e);
      leaves = λ later. ap (decoded Hex later 0) (behind_one 0 old middle first y) ∙ over Hex middle (λ _. end) later;
    }

behind_byte : (so_far first b : ℕ) (old middle new : Rest) → past_white old ≡ byte first middle → nat_lt (digit_value first) 16 ≡ true
    → past_white middle ≡ byte b new → Finds Hex so_far old (behind_digit (digit_value first) (Byte b)) new
behind_byte so_far first b old middle new y h z =
    let high = digit_value first in
    let is : Code → Type 0 = λ c. second_digit high (past_white middle) ≡ c in
    ⊎_elim
    (λ t. rw t (
    finds_cut_digit so_far first old middle new y h (ap (second_digit high) z ∙ cond-true (b == 62) _ _ t)
    (subst IsEnd (sym (ap first_digit z ∙ cond-true (b == 62) (Ends 1) _ t)) tt)))
    (λ f. rw f (⊎_elim
    (λ (t : nat_lt (digit_value b) 16 ≡ true). rw t (record {
      code_is = sym (first_is first old middle y h ∙ ap (second_digit high) z ∙ cond-false (b == 62) _ _ f ∙ cond-true (nat_lt (digit_value b) 16) _ _ t);
      leaves = λ later. ap (decoded Hex later 0) (behind_one 1 old middle first y ∙ behind_one 0 middle new b z);
    }))
    (λ (g : nat_lt (digit_value b) 16 ≡ false). rw g (record {
      code_is = sym (first_is first old middle y h ∙ ap (second_digit high) z ∙ cond-false (b == 62) _ _ f ∙ cond-false (nat_lt (digit_value b) 16) _ _ g);
      leaves = tt;
    }))
    (cases_Bool (nat_lt (digit_value b) 16))))
    (cases_Bool (b == 62))

pub finds_behind_digit : (so_far first : ℕ) (old middle new : Rest) (g : Given) → past_white old ≡ byte first middle → nat_lt (digit_value first) 16 ≡ true
    → Yields (past_white middle) g new → Finds Hex so_far old (behind_digit (digit_value first) g) new
finds_behind_digit so_far first old middle new (Byte b) y h z = behind_byte so_far first b old middle new y h z
finds_behind_digit so_far first old middle new End y h z =
    finds_cut_digit so_far first old middle new y h (ap (second_digit (digit_value first)) z.0) (subst IsEnd (sym (ap first_digit z.0)) tt)
finds_behind_digit so_far first old middle new Bad y h z =
    record { code_is = sym (first_is first old middle y h ∙ ap (second_digit (digit_value first)) z.0); leaves = tt }

pub finds_second : (so_far first high : ℕ) (old middle new : Rest) (g : Given) → past_white old ≡ byte first middle → high ≡ digit_value first → high < 16
    → Yields (past_white middle) g new → Finds Hex so_far old (behind_digit high g) new
finds_second so_far first high old middle new g y e h z =
    let digit : digit_value first < 16 = omega (arith, e, h) in
    subst (λ d. Finds Hex so_far old (behind_digit d g) new) (sym e)
    (finds_behind_digit so_far first old middle new g y (lt-ltb (digit_value first) 16 digit) z)

-- characters in base 85

-- a group of which some characters were read
pub record GroupStands (old : Rest) (missing value : ℕ) (now : Rest) : Type 0 where
  pub code_is : group 5 0 old ≡ group missing value now
  pub left : behind is_white (5 - missing) old ≡ now
  pub within : missing ≤ 5
  pub small : value < 85 ^ (5 - missing)

pub group_begins : (old : Rest) → GroupStands old 5 0 old
group_begins old = record { code_is = refl; left = refl; within = lit≤ tt; small = lit< tt }

pub small_value : (missing value : ℕ) → missing ≤ 5 → value < 85 ^ (5 - missing) → value < 4437053125
small_value zero value m v = v
small_value (suc zero) value m v = omega (arith, v)
small_value (suc (suc zero)) value m v = omega (arith, v)
small_value (suc (suc (suc zero))) value m v = omega (arith, v)
small_value (suc (suc (suc (suc zero)))) value m v = omega (arith, v)
small_value (suc (suc (suc (suc (suc zero))))) value m v = omega (arith, v)
small_value (suc (suc (suc (suc (suc (suc n)))))) value m v = absurd (omega (arith, m))

grows : (missing value digit : ℕ) → suc missing ≤ 5 → value < 85 ^ (5 - suc missing) → digit ≤ 84 → value * 85 + digit < 85 ^ (5 - missing)
grows zero value digit m v d = omega (arith, v, d)
grows (suc zero) value digit m v d = omega (arith, v, d)
grows (suc (suc zero)) value digit m v d = omega (arith, v, d)
grows (suc (suc (suc zero))) value digit m v d = omega (arith, v, d)
grows (suc (suc (suc (suc zero)))) value digit m v d = omega (arith, v, d)
grows (suc (suc (suc (suc (suc n))))) value digit m v d = absurd (omega (arith, m))

-- a character is at most `u`
character_low : (b : ℕ) → is_character b ≡ true → b - 33 ≤ 84
character_low b c = grind (arith, nat_tests, c)

shrinks : (missing : ℕ) → suc missing ≤ 5 → 5 - missing ≡ suc (5 - suc missing)
shrinks missing h = omega (arith, h)

pub group_grows : (old now new : Rest) (missing value b : ℕ) → 0 < missing → GroupStands old missing value now → Yields (past_white now) (Byte b) new
    → is_character b ≡ true → GroupStands old (missing - 1) (value * 85 + (b - 33)) new
group_grows old now new zero value b h stands y c = absurd (omega (arith, h))
group_grows old now new (suc m) value b h stands y c =
    let less : suc m - 1 ≡ m = omega arith in
    rw less (record {
      code_is = stands.code_is ∙ ap (character (suc m) value (group m)) y ∙ cond-true (is_character b) (group m (value * 85 + (b - 33)) new) _ c;
      left = ap (λ n. behind is_white n old) (shrinks m stands.within) ∙ behind_more is_white (5 - suc m) old ∙ ap (behind is_white 1) stands.left ∙ behind_one 0 now new b y;
      within = omega (arith, stands.within);
      small = grows m value (b - 33) stands.within stands.small (character_low b c);
    })

-- a group without a missing character gives its four bytes
pub finds_group : (so_far value : ℕ) (old now : Rest) (c : Code) → GroupStands old 0 value now
    → c ≡ (if nat_lt value (2 ^ 32) then Gives (word_of value) 5 else Wrong) → Finds Base85 so_far old (whole c) now
finds_group so_far value old now c stands e =
    record {
      code_is = e ∙ sym stands.code_is;
      leaves = ⊎_elim
          (λ (t : nat_lt value (2 ^ 32) ≡ true). rw (e ∙ cond-true _ _ _ t) (λ later. ap (decoded Base85 later 0) stands.left))
          (λ (f : nat_lt value (2 ^ 32) ≡ false). rw (e ∙ cond-false _ _ _ f) tt)
          (cases_Bool (nat_lt value (2 ^ 32)));
    }

-- the characters at the end leave the end
cut_leaves : (t : Bool) (old new : Rest) (x y : Code) → Leaves Base85 old x true new → Leaves Base85 old y true new → Leaves Base85 old (cond t x y) true new
cut_leaves true old new x y h k = h
cut_leaves false old new x y h k = k

cut_group_leaves : (missing value : ℕ) (old new : Rest) (end : Code) → GivesNone end
    → ((later : ℕ) → decoded Base85 later 0 (behind is_white (5 - missing) old) ≡ ended) → Leaves Base85 old (cut_group missing value end) true new
cut_group_leaves missing value old new end h over_then =
    cut_leaves (missing == 5) old new end _ (none_left Base85 old new end true h)
    (cut_leaves (missing == 4) old new Wrong _ tt
    (cut_leaves (nat_lt (padded missing value) (2 ^ 32)) old new (Gives (take (4 - missing) (word_of (padded missing value))) (5 - missing)) Wrong over_then tt))

-- what is no character, and no tilde either
abbrev IsNoCharacter : Given → Type 0
IsNoCharacter (Byte b) = (is_character b ≡ false) × ((b == 126) ≡ false)
IsNoCharacter End = Unit {0}
IsNoCharacter Bad = Unit {0}

group_is : (old now : Rest) (missing value : ℕ) → 0 < missing → GroupStands old missing value now
    → group 5 0 old ≡ character missing value (group (missing - 1)) (past_white now)
group_is old now zero value h stands = absurd (omega (arith, h))
group_is old now (suc m) value h stands =
    let less : suc m - 1 ≡ m = omega arith in
    rw less stands.code_is

second_of : (x y : Bool) → (x && y) ≡ true → y ≡ true
second_of true y h = h
second_of false y h = absurd (cc)

without_byte : (so_far missing value b : ℕ) (old now new : Rest) → 0 < missing → GroupStands old missing value now → is_character b ≡ false → (b == 126) ≡ false
    → past_white now ≡ byte b new → Finds Base85 so_far old (without_character missing value (Byte b)) new
without_byte so_far missing value b old now new h stands n m y =
    let all : Bool = b == 122 && missing == 5 in
    let is = group_is old now missing value h stands ∙ ap (character missing value (group (missing - 1))) y ∙ cond-false (is_character b) _ _ n in
    ⊎_elim
    (λ (t : all ≡ true). rw t (record {
      code_is = sym (is ∙ cond-true all (Gives (0 ∷ 0 ∷ 0 ∷ 0 ∷ []) 1) _ t);
      leaves = λ later.
          let five : missing ≡ 5 = eqb-true missing 5 (second_of (b == 122) (missing == 5) t) in
          let same : old ≡ now = subst (λ k. behind is_white (5 - k) old ≡ now) five stands.left in
          ap (decoded Base85 later 0) (ap (behind is_white 1) same ∙ behind_one 0 now new b y);
    }))
    (λ (f : all ≡ false). rw f (record {
      code_is = sym (is ∙ cond-false all _ _ f ∙ cond-false (b == 126) _ _ m);
      leaves = tt;
    }))
    (cases_Bool all)

pub finds_without_character : (so_far missing value : ℕ) (old now new : Rest) (g : Given) → 0 < missing → GroupStands old missing value now → IsNoCharacter g
    → Yields (past_white now) g new → Finds Base85 so_far old (without_character missing value g) new
finds_without_character so_far missing value old now new (Byte b) h stands n y = without_byte so_far missing value b old now new h stands n.0 n.1 y
finds_without_character so_far missing value old now new End h stands n y =
    record {
      code_is = sym (group_is old now missing value h stands ∙ ap (character missing value (group (missing - 1))) y.0);
      leaves = cut_group_leaves missing value old new EndsWithSource tt
          (λ later. ap (decoded Base85 later 0) stands.left ∙ over Base85 now (λ _. subst IsEnd (sym (ap (character 5 0 (group 4)) y.0)) tt) later);
    }
finds_without_character so_far missing value old now new Bad h stands n y =
    record { code_is = sym (group_is old now missing value h stands ∙ ap (character missing value (group (missing - 1))) y.0); leaves = tt }

pub finds_behind_tilde : (so_far missing value : ℕ) (old now middle new : Rest) (g : Given) → 0 < missing → GroupStands old missing value now
    → past_white now ≡ byte 126 middle → Yields middle g new → Finds Base85 so_far old (behind_tilde missing value g) new
finds_behind_tilde so_far missing value old now middle new (Byte b) h stands y z =
    let is = group_is old now missing value h stands ∙ ap (character missing value (group (missing - 1))) y ∙ ap (tilde missing value) z in
    ⊎_elim
    (λ (t : (b == 62) ≡ true). rw t (record {
      code_is = sym (is ∙ cond-true (b == 62) (cut_group missing value (Ends 2)) Wrong t);
      leaves = cut_group_leaves missing value old new (Ends 2) tt
          (λ later. ap (decoded Base85 later 0) stands.left
          ∙ over Base85 now (λ _. subst IsEnd (sym (ap (character 5 0 (group 4)) y ∙ ap (tilde 5 0) z ∙ cond-true (b == 62) (Ends 2) Wrong t)) tt) later);
    }))
    (λ (f : (b == 62) ≡ false). rw f (record { code_is = sym (is ∙ cond-false (b == 62) (cut_group missing value (Ends 2)) Wrong f); leaves = tt }))
    (cases_Bool (b == 62))
finds_behind_tilde so_far missing value old now middle new End h stands y z =
    record { code_is = sym (group_is old now missing value h stands ∙ ap (character missing value (group (missing - 1))) y ∙ ap (tilde missing value) z.0); leaves = tt }
finds_behind_tilde so_far missing value old now middle new Bad h stands y z =
    record { code_is = sym (group_is old now missing value h stands ∙ ap (character missing value (group (missing - 1))) y ∙ ap (tilde missing value) z.0); leaves = tt }

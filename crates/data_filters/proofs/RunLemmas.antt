-- Runs and parts that are read ahead.
use Rattle.std.proofs.Common.{◌≡◌, ℕ, zero, suc, ◌+◌, ◌-◌, ◌<◌, ◌≤◌, Bool, true, false, List, [], ◌∷◌, ◌++◌, length, refl, sym, ap, subst, ◌∙◌, arith, ⊎_elim, Option, Some, None, length-append}
use Rattle.std.specs.Prelude.{◌==◌, ◌&&◌, not, nat_lt, nat_eq, replicate, if◌then◌else◌}
use Rattle.std.specs.Prelude.{MatchOption}
use Rattle.std.specs.List.{starts_with}
use Rattle.std.proofs.lemmas.Bool.{cases_Bool, cond-true, cond-false, ltb-true, lt-ltb}
use Rattle.filter_tower.specs.declared.tower.FilterKind.TheVariants.{RunLength, SubFile}
use Rattle.filter_tower.specs.Layers.{needs_text}
use Rattle.data_filters.specs.declared.given.Given.{Given}
use Rattle.data_filters.specs.declared.given.Given.TheVariants.{Byte, End, Bad}
use Rattle.data_filters.specs.declared.code.Code.TheVariants.{Gives, Ends, EndsWithSource, Wrong}
use Rattle.data_filters.specs.declared.code.Found.{Found}
use Rattle.data_filters.specs.Rests.{Rest, byte, ended, behind, rest_of, Yields}
use Rattle.data_filters.specs.Codes.{passes, front, in_front, literal_of, literal, repeated, run, one, begins_with, part}
use Rattle.data_filters.specs.Decoded.{decoded}
use Rattle.data_filters.specs.Found.{Leaves, Finds, whole, behind_length, by_itself, FindsLiteral, literal_found, part_end}
use Rattle.data_filters.proofs.CodeLemmas.{differs}
use Rattle.data_filters.proofs.FoundLemmas.{behind_more, decoded_ended}

abbrev never : ℕ → Bool
never = passes RunLength

-- bytes in front of those that come
abbrev prepended : List ℕ → Option (List ℕ) → Option (List ℕ)
prepended [] found = found
prepended (b ∷ bs) found = in_front b (prepended bs found)

prepended_some : (bytes : List ℕ) → prepended bytes (Some []) ≡ Some bytes
prepended_some [] = refl
prepended_some (b ∷ bs) = ap (in_front b) (prepended_some bs)

prepended_none : (bytes : List ℕ) → prepended bytes None ≡ None
prepended_none [] = refl
prepended_none (b ∷ bs) = ap (in_front b) (prepended_none bs)

prepended_push : (bytes : List ℕ) (b : ℕ) (found : Option (List ℕ)) → prepended bytes (in_front b found) ≡ prepended (bytes ++ b ∷ []) found
prepended_push [] b found = refl
prepended_push (x ∷ bytes) b found = ap (in_front x) (prepended_push bytes b found)

-- a literal run of which some bytes were read
pub record LiteralStands (old : Rest) (count : ℕ) (bytes : List ℕ) (now : Rest) : Type 0 where
  pub front_is : front count old ≡ prepended bytes (front (count - length bytes) now)
  pub left : behind never (length bytes) old ≡ now

pub literal_begins : (old : Rest) (count : ℕ) → LiteralStands old count [] old
literal_begins old count = let all : count - 0 ≡ count = omega arith in record { front_is = ap (λ n. front n old) (sym all); left = refl }

pub literal_grows : (old now new : Rest) (count b : ℕ) (bytes : List ℕ) → length bytes < count → LiteralStands old count bytes now → Yields now (Byte b) new
    → LiteralStands old count (bytes ++ b ∷ []) new
literal_grows old now new count b bytes h stands y =
    let longer : length (bytes ++ b ∷ []) ≡ suc (length bytes) = omega (arith, length-append bytes (b ∷ [])) in
    let left : count - length bytes ≡ suc (count - suc (length bytes)) = omega (arith, h) in
    let fewer : count - suc (length bytes) ≡ count - length (bytes ++ b ∷ []) = omega (arith, longer) in
    record {
      front_is =
          stands.front_is ∙ ap (λ n. prepended bytes (front n now)) left ∙ ap (λ r. prepended bytes (front (suc (count - suc (length bytes))) r)) y
          ∙ prepended_push bytes b (front (count - suc (length bytes)) new) ∙ ap (λ n. prepended (bytes ++ b ∷ []) (front n new)) fewer;
      left = ap (λ n. behind never n old) longer ∙ behind_more never (length bytes) old ∙ ap (behind never 1) (stands.left ∙ y);
    }

literal_leaves : (bytes : List ℕ) (old new : Rest) (is_cut : Bool) (first : ℕ)
    → ((later : ℕ) → decoded RunLength later 0 (behind never (length bytes) old) ≡ (if is_cut then ended else decoded RunLength later 0 new))
    → Leaves RunLength (byte first old) (literal_of (Some bytes)) is_cut new
literal_leaves [] old new is_cut first h = tt
literal_leaves (b ∷ bs) old new is_cut first h =
    let two : length bs + 2 ≡ suc (suc (length bs)) = omega arith in
    λ later. ap (λ n. decoded RunLength later 0 (behind never n (byte first old))) two ∙ h later

-- the run is whole
pub finds_literal : (old now : Rest) (count : ℕ) (bytes : List ℕ) → count ≤ length bytes → LiteralStands old count bytes now
    → FindsLiteral count old (literal_found bytes false) now
finds_literal old now count bytes h stands =
    let none : count - length bytes ≡ 0 = omega (arith, h) in
    record {
      code_is = ap literal_of (sym (stands.front_is ∙ ap (λ n. prepended bytes (front n now)) none ∙ prepended_some bytes));
      leaves = λ first. literal_leaves bytes old now false first (λ later. ap (decoded RunLength later 0) stands.left);
    }

front_ended : (n : ℕ) → front n ended ≡ Some []
front_ended zero = refl
front_ended (suc n) = refl

-- the source ends in it
pub finds_cut_literal : (old now new : Rest) (count : ℕ) (bytes : List ℕ) → LiteralStands old count bytes now → Yields now End new
    → FindsLiteral count old (literal_found bytes true) new
finds_cut_literal old now new count bytes stands y =
    record {
      code_is = ap literal_of (sym (stands.front_is ∙ ap (λ r. prepended bytes (front (count - length bytes) r)) y.0 ∙ ap (prepended bytes) (front_ended (count - length bytes)) ∙ prepended_some bytes));
      leaves = λ first. literal_leaves bytes old new true first (λ later. ap (decoded RunLength later 0) (stands.left ∙ y.0) ∙ decoded_ended RunLength later);
    }

-- the source is broken in it
pub finds_broken_literal : (old now new : Rest) (count : ℕ) (bytes : List ℕ) → length bytes < count → LiteralStands old count bytes now → Yields now Bad new
    → FindsLiteral count old (whole Wrong) new
finds_broken_literal old now new count bytes h stands y =
    let left : count - length bytes ≡ suc (count - suc (length bytes)) = omega (arith, h) in
    record {
      code_is =
          ap literal_of (sym (stands.front_is ∙ ap (λ n. prepended bytes (front n now)) left ∙ ap (λ r. prepended bytes (front (suc (count - suc (length bytes))) r)) y.0 ∙ prepended_none bytes));
      leaves = λ first. tt;
    }

-- runs, by their first byte
not_below : (n m : ℕ) → m ≤ n → nat_lt n m ≡ false
not_below n m h = ⊎_elim (λ t. absurd (let lt : n < m = ltb-true n m t in omega (arith, h, lt))) (λ f. f) (cases_Bool (nat_lt n m))

run_literal : (n : ℕ) (r : Rest) → n < 128 → run (byte n r) ≡ literal (n + 1) r
run_literal n r h =
    cond-false (n == 128) (Ends 1) _ (differs n 128 (λ e. omega (arith, h, e))) ∙ cond-true (nat_lt n 128) (literal (n + 1) r) _ (lt-ltb n 128 h)

pub finds_literal_run : (so_far n count : ℕ) (old middle new : Rest) (found : Found) → n < 128 → count ≡ n + 1 → Yields old (Byte n) middle
    → FindsLiteral count middle found new → Finds RunLength so_far old found new
finds_literal_run so_far n count old middle new found h e y finds =
    record {
      code_is = finds.code_is ∙ ap (λ k. literal k middle) e ∙ sym (ap run y ∙ run_literal n middle h);
      leaves = subst (λ r. Leaves RunLength r found.code found.is_cut new) (sym y) (finds.leaves n);
    }

run_repeated : (n : ℕ) (r : Rest) → 128 < n → run (byte n r) ≡ repeated (256 - n) r
run_repeated n r h =
    cond-false (n == 128) (Ends 1) _ (differs n 128 (λ e. omega (arith, h, e))) ∙ cond-false (nat_lt n 128) (literal (n + 1) r) _ (not_below n 128 (omega (arith, h)))

pub finds_repeated_run : (so_far n more : ℕ) (old middle new : Rest) (g : Given) → 128 < n → more ≡ 256 - n → Yields old (Byte n) middle → Yields middle g new
    → Finds RunLength so_far old (behind_length more g) new
finds_repeated_run so_far n more old middle new (Byte b) h e y z =
    record {
      code_is = sym (ap run y ∙ run_repeated n middle h ∙ ap (repeated (256 - n)) z ∙ ap (λ k. Gives (b ∷ replicate k b) 2) (sym e));
      leaves = λ later. ap (λ r. decoded RunLength later 0 (behind never 2 r)) (y ∙ ap (byte n) z);
    }
finds_repeated_run so_far n more old middle new End h e y z =
    record { code_is = sym (ap run y ∙ run_repeated n middle h ∙ ap (repeated (256 - n)) z.0); leaves = tt }
finds_repeated_run so_far n more old middle new Bad h e y z =
    record { code_is = sym (ap run y ∙ run_repeated n middle h ∙ ap (repeated (256 - n)) z.0); leaves = tt }

pub finds_no_run : (so_far : ℕ) (old new : Rest) → Yields old (Byte 128) new → Finds RunLength so_far old (whole (Ends 1)) new
finds_no_run so_far old new y = record { code_is = sym (ap run y); leaves = tt }

pub finds_run_end : (so_far : ℕ) (old new : Rest) → Yields old End new → Finds RunLength so_far old (whole EndsWithSource) new
finds_run_end so_far old new y = record { code_is = sym (ap run y.0); leaves = tt }

pub finds_run_bad : (so_far : ℕ) (old new : Rest) → Yields old Bad new → Finds RunLength so_far old (whole Wrong) new
finds_run_bad so_far old new y = record { code_is = sym (ap run y.0); leaves = tt }

-- parts of a source

pub finds_one : (so_far count : ℕ) (mark : List ℕ) (old new : Rest) (g : Given) → part count mark so_far old ≡ one old → Yields old g new
    → Finds (SubFile count mark) so_far old (by_itself g) new
finds_one so_far count mark old new (Byte b) e y =
    record { code_is = sym (e ∙ ap one y); leaves = λ later. ap (λ r. decoded (SubFile count mark) later 0 (behind never 1 r)) y }
finds_one so_far count mark old new End e y = record { code_is = sym (e ∙ ap one y.0); leaves = tt }
finds_one so_far count mark old new Bad e y = record { code_is = sym (e ∙ ap one y.0); leaves = tt }

-- a text begins with a mark
pub begins : (mark text : List ℕ) → begins_with mark (rest_of text) ≡ starts_with nat_eq text mark
begins [] text = refl
begins (m ∷ ms) [] = refl
begins (m ∷ ms) (b ∷ bs) = ap (λ t. m == b && t) (begins ms bs)

-- where a part ends, and where it doesn't
ends_or_one : (t : Bool) (n : ℕ) (r : Rest) → MatchOption (if t then Some n else None) ((if t then Ends n else one r) ≡ one r) (λ k. (if t then Ends n else one r) ≡ Ends k)
ends_or_one true n r = refl
ends_or_one false n r = refl

part_at : (so_far count : ℕ) (mark text : List ℕ) (r : Rest) → (needs_text (SubFile count mark) ≡ true → r ≡ rest_of text)
    → MatchOption (part_end count mark so_far text) (part count mark so_far r ≡ one r) (λ k. part count mark so_far r ≡ Ends k)
part_at so_far count [] text r h = ends_or_one (not (count == 0) && so_far == count) 0 r
part_at so_far count (m ∷ ms) text r h =
    let same : begins_with (m ∷ ms) r ≡ starts_with nat_eq text (m ∷ ms) = ap (begins_with (m ∷ ms)) (h refl) ∙ begins (m ∷ ms) text in
    rw same (ends_or_one (starts_with nat_eq text (m ∷ ms)) (length (m ∷ ms)) r)

pub finds_part_end : (so_far count n : ℕ) (mark text : List ℕ) (old new : Rest) → (needs_text (SubFile count mark) ≡ true → old ≡ rest_of text)
    → Some n ≡ part_end count mark so_far text → Finds (SubFile count mark) so_far old (whole (Ends n)) new
finds_part_end so_far count n mark text old new h e =
    let found = subst (λ (x : Option ℕ). MatchOption x (part count mark so_far old ≡ one old) (λ k. part count mark so_far old ≡ Ends k)) (sym e) (part_at so_far count mark text old h) in
    record { code_is = sym found; leaves = tt }

pub finds_part : (so_far count : ℕ) (mark text : List ℕ) (old new : Rest) (g : Given) → (needs_text (SubFile count mark) ≡ true → old ≡ rest_of text)
    → None ≡ part_end count mark so_far text → Yields old g new → Finds (SubFile count mark) so_far old (by_itself g) new
finds_part so_far count mark text old new g h e y =
    let found = subst (λ (x : Option ℕ). MatchOption x (part count mark so_far old ≡ one old) (λ k. part count mark so_far old ≡ Ends k)) (sym e) (part_at so_far count mark text old h) in
    finds_one so_far count mark old new g found y

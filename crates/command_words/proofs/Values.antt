-- The value of an option behind its name.
use Rattle.std.proofs.Common.{◌≡◌, ℕ, inl, inr, min, List, Option, Some, None, drop, length, ap, sym, ◌∙◌, arith}
use Rattle.std.proofs.lemmas.Bool.{cases_lt}
use Rattle.command_words.specs.Options.{measure_given, taken, taken_behind, value_start}
use Rattle.command_words.specs.declared.options.Given.{Given}
use Rattle.command_words.specs.declared.options.Measure.{Measure}
use Rattle.std.proofs.lemmas.List.{drop_all}

-- what begins past the end of a word is empty, whether the place is cut at the end or not
drop_within : (k : ℕ) (word : List ℕ) → drop (min k (length word)) word ≡ drop k word
drop_within k word = elim (cases_lt k (length word)) [
  | inl h ↦ ap (λ m. drop m word) (omega (arith, h))
  | inr h ↦ drop_all (min k (length word)) word (omega (arith, h)) ∙ sym (drop_all k word h)
]

-- the value behind a name
pub behind_name : (word : List ℕ) (g : Given) (named : Option Measure) (measure : Measure) (start : ℕ) (value : List ℕ) (r : Option Given)
    → named ≡ measure_given word → named ≡ Some measure → start ≡ min (value_start measure) (length word) → value ≡ drop start word → r ≡ taken measure value g → r ≡ taken_behind word g
behind_name word g named measure start value r n m s v t =
    t ∙ ap (λ x. taken measure x g) (v ∙ ap (λ k. drop k word) s ∙ drop_within (value_start measure) word)
    ∙ ap (λ (o : Option Measure). elim o [ None ↦ None | Some x ↦ taken x (drop (value_start x) word) g ]) (sym m ∙ n)

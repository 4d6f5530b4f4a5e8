-- What is kept one after the other is kept together.
use Rattle.std.proofs.Common.{◌≡◌, ℕ, ◌+◌, List, ◌++◌, [], length, take, ap, sym, ◌∙◌, append-nil, append_assoc, length-append, arith}
use Rattle.std.proofs.lemmas.List.{take-append-le}
use Rattle.std.proofs.Math.Seq.{take-append-add, take-length}
use Rattle.ps_shapes.specs.Sheet.{Sheet}
use Rattle.out_writers.specs.Kept.{KeepsAll, KeepsFront, GrowsByFront}
use Rattle.out_writers.specs.declared.kept.Kept.{Kept}

grown : {A : Type 0} (n m o a b : List A) → m ≡ o ++ a → n ≡ m ++ b → n ≡ o ++ (a ++ b)
grown n m o a b p q = q ∙ ap (λ s. s ++ b) p ∙ append_assoc o a b

grown_front : {A : Type 0} (n m o a b : List A) → m ≡ o ++ a → GrowsByFront n m b → GrowsByFront n o (a ++ b)
grown_front n m o a b p (k, l, q) =
    (length a + k, (rw length-append (omega arith)), grown n m o a (take k b) p q ∙ ap (λ s. o ++ s) (sym (take-append-add a b k)))

whole_front : {A : Type 0} (n o a : List A) → n ≡ o ++ a → GrowsByFront n o a
whole_front n o a p = (length a, omega arith, p ∙ ap (λ s. o ++ s) (sym (take-length a)))

longer_front : {A : Type 0} (n o a b : List A) → GrowsByFront n o a → GrowsByFront n o (a ++ b)
longer_front n o a b (k, l, q) =
    (k, (rw length-append (omega arith)), q ∙ ap (λ s. o ++ s) (sym (take-append-le k a b l)))

-- an outlet has kept nothing since itself
pub nothing : (o : Kept) → KeepsAll o o [] []
nothing o = record { pages = sym (append-nil o.pages); said = sym (append-nil o.text) }

-- what was kept, and then more, is kept together
pub joined : (n m o : Kept) (papers more : List Sheet) (text rest : List ℕ) →
    KeepsAll m o papers text → KeepsAll n m more rest → KeepsAll n o (papers ++ more) (text ++ rest)
joined n m o papers more text rest a b = record {
  pages = grown n.pages m.pages o.pages papers more a.pages b.pages;
  said = grown n.text m.text o.text text rest a.said b.said;
}

-- what was kept, and then a front of more, is a front of both
pub joined_cut : (n m o : Kept) (papers more : List Sheet) (text rest : List ℕ) →
    KeepsAll m o papers text → KeepsFront n m more rest → KeepsFront n o (papers ++ more) (text ++ rest)
joined_cut n m o papers more text rest a b = record {
  pages = grown_front n.pages m.pages o.pages papers more a.pages b.pages;
  said = grown_front n.text m.text o.text text rest a.said b.said;
}

-- all of it is a front of it
pub whole : (n o : Kept) (papers : List Sheet) (text : List ℕ) → KeepsAll n o papers text → KeepsFront n o papers text
whole n o papers text a = record {
  pages = whole_front n.pages o.pages papers a.pages;
  said = whole_front n.text o.text text a.said;
}

-- a front of it is a front of more
pub longer : (n o : Kept) (papers more : List Sheet) (text rest : List ℕ) →
    KeepsFront n o papers text → KeepsFront n o (papers ++ more) (text ++ rest)
longer n o papers more text rest a = record {
  pages = longer_front n.pages o.pages papers more a.pages;
  said = longer_front n.text o.text text rest a.said;
}

-- What is counted one after the other is counted together.
use Rattle.std.proofs.Common.{ℕ, List, [], ◌++◌, refl, ◌∙◌, length-append, arith}
use Rattle.ps_shapes.specs.Sheet.{Sheet}
use Rattle.section_sequence.specs.Counting.{Writing, CountsAll, CountsFront}
use Rattle.section_sequence.specs.declared.page_counter.PageCounter.{PageCounter}

-- no page was counted since itself
pub nothing : {O : Type 0} (since : Writing O) → ((o : O) → since o o [] []) → (o : PageCounter O) → CountsAll since o o [] []
nothing since none o = record { over = refl; written = none o.out.now; shown = omega arith }

-- what was counted, and then more, is counted together
pub joined : {O : Type 0} (since : Writing O)
    → ((n m o : O) (papers more : List Sheet) (text rest : List ℕ) → since m o papers text → since n m more rest → since n o (papers ++ more) (text ++ rest))
    → (n m o : PageCounter O) (papers more : List Sheet) (text rest : List ℕ) → CountsAll since m o papers text → CountsAll since n m more rest → CountsAll since n o (papers ++ more) (text ++ rest)
joined since both n m o papers more text rest a b = record {
  over = b.over ∙ a.over;
  written = both n.out.now m.out.now o.out.now papers more text rest a.written b.written;
  shown = rw length-append (omega (arith, a.shown, b.shown));
}

-- what was counted, and then a front of more, is a front of both
pub joined_cut : {O : Type 0} (since cut : Writing O)
    → ((n m o : O) (papers more : List Sheet) (text rest : List ℕ) → since m o papers text → cut n m more rest → cut n o (papers ++ more) (text ++ rest))
    → (n m o : PageCounter O) (papers more : List Sheet) (text rest : List ℕ) → CountsAll since m o papers text → CountsFront cut n m more rest → CountsFront cut n o (papers ++ more) (text ++ rest)
joined_cut since cut both n m o papers more text rest a b = record {
  over = b.over ∙ a.over;
  written = both n.out.now m.out.now o.out.now papers more text rest a.written b.written;
}

-- all of it is a front of it
pub whole : {O : Type 0} (since cut : Writing O) → ((n o : O) (papers : List Sheet) (text : List ℕ) → since n o papers text → cut n o papers text)
    → (n o : PageCounter O) (papers : List Sheet) (text : List ℕ) → CountsAll since n o papers text → CountsFront cut n o papers text
whole since cut is n o papers text a = record { over = a.over; written = is n.out.now o.out.now papers text a.written }

-- a front of it is a front of more
pub longer : {O : Type 0} (cut : Writing O) → ((n o : O) (papers more : List Sheet) (text rest : List ℕ) → cut n o papers text → cut n o (papers ++ more) (text ++ rest))
    → (n o : PageCounter O) (papers more : List Sheet) (text rest : List ℕ) → CountsFront cut n o papers text → CountsFront cut n o (papers ++ more) (text ++ rest)
longer cut is n o papers more text rest a = record { over = a.over; written = is n.out.now o.out.now papers more text rest a.written }

-- What a cell holds is what its memory holds.
use Rattle.std.proofs.Common.{◌≡◌, Bool, Option, Some, None, ap, sym, ◌∙◌, IsTrue, ◌↔◌}
use Rattle.std.specs.FinMap.{get}
use Rattle.ps_objects.specs.declared.cell.Cell.{Cell}
use Rattle.ps_objects.specs.declared.place.Loc.{Loc}
use Rattle.ps_objects.specs.declared.place.Loc.TheVariants as loc
use Rattle.ps_objects.specs.declared.place.Value.{Value}
use Rattle.ps_objects.specs.declared.place.Value.TheVariants as value
use Rattle.ps_memory.specs.Memory.{Content, Memory, part, entry, access, item, whole, held, spot_of, in_content, value_found, keys_of, value_at}
use Rattle.vm_content.specs.Content.{slot_in, value_in}

-- what a cell that may stand has at a place
value_of : Option Content → Loc → Value
value_of None l = value.Absent
value_of (Some x) l = value_in x l

same_value : (M : Memory) (l : Loc) (c : Cell) (o : Option Content) → spot_of l ≡ held c (slot_in l) → o ≡ get (part M c) c → value_of o l ≡ value_at M l
unfolding value_of
same_value M (loc.Entry d k) c o p h = go o (h ∙ ap (λ q. get (part M q) q) (same p))
  where
    same : held d (entry k) ≡ held c (entry k) → c ≡ d
    same p = cc

    go : (o : Option Content) → o ≡ get (part M d) d → value_of o (loc.Entry d k) ≡ value_found (in_content (get (part M d) d) (entry k))
    go None h = ap (λ o. value_found (in_content o (entry k))) h
    go (Some x) h = ap (λ o. value_found (in_content o (entry k))) h
same_value M (loc.Keys d) c o p h = go o (h ∙ ap (λ q. get (part M q) q) (same p))
  where
    same : held d whole ≡ held c whole → c ≡ d
    same p = cc

    go : (o : Option Content) → o ≡ get (part M d) d → value_of o (loc.Keys d) ≡ keys_of (get (part M d) d)
    go None h = ap keys_of h
    go (Some x) h = ap keys_of h
same_value M (loc.Access d) c o p h = go o (h ∙ ap (λ q. get (part M q) q) (same p))
  where
    same : held d access ≡ held c access → c ≡ d
    same p = cc

    go : (o : Option Content) → o ≡ get (part M d) d → value_of o (loc.Access d) ≡ value_found (in_content (get (part M d) d) access)
    go None h = ap (λ o. value_found (in_content o access)) h
    go (Some x) h = ap (λ o. value_found (in_content o access)) h
same_value M (loc.Item a i) c o p h = go o (h ∙ ap (λ q. get (part M q) q) (same p))
  where
    same : held a (item i) ≡ held c (item i) → c ≡ a
    same p = cc

    go : (o : Option Content) → o ≡ get (part M a) a → value_of o (loc.Item a i) ≡ value_found (in_content (get (part M a) a) (item i))
    go None h = ap (λ o. value_found (in_content o (item i))) h
    go (Some x) h = ap (λ o. value_found (in_content o (item i))) h
same_value M (loc.Byte s i) c o p h = cc
same_value M loc.Rand c o p h = cc
same_value M loc.Paper c o p h = cc

pub held_by_cell : (M : Memory) (l : Loc) (c : Cell) (x : Content) (v : Value) (b : Bool) → spot_of l ≡ held c (slot_in l) → Some x ≡ get (part M c) c → IsTrue b ↔ (value_in x l ≡ v) → IsTrue b ↔ (value_at M l ≡ v)
unfolding value_of
held_by_cell M l c x v b p h (f, g) = let e = same_value M l c (Some x) p h in (λ t. sym e ∙ f t, λ w. g (e ∙ w))

pub held_by_none : (M : Memory) (l : Loc) (c : Cell) (v : Value) (b : Bool) → spot_of l ≡ held c (slot_in l) → None ≡ get (part M c) c → IsTrue b ↔ (value.Absent ≡ v) → IsTrue b ↔ (value_at M l ≡ v)
unfolding value_of
held_by_none M l c v b p h (f, g) = let e = same_value M l c None p h in (λ t. sym e ∙ f t, λ w. g (e ∙ w))

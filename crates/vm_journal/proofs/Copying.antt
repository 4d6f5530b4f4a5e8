-- Copies of notes.
use Rattle.std.proofs.Common.{◌≡◌, List, ◌∷◌, ◌++◌, ap, ◌∙◌}
use Rattle.std.specs.List.Sorted.{IsStrictlySortedBy}
use Rattle.std.specs.Map.{keys_of}
use Rattle.std.specs.BTreeMap.{insert_entry}
use Rattle.ps_objects.specs.declared.place.Loc.{Loc}
use Rattle.ps_objects.specs.declared.place.Value.{Value}
use Rattle.vm_content.proofs.Ordered.{inserted_next}
use Rattle.vm_journal.specs.Journal.{loc_cmp, Note}
use Rattle.vm_journal.proofs.Places.{locs_total}

-- a copy of the next note, inserted into those before it
pub note_copied : (all es fs left rest : List Note) (l k : Loc) (v w : Value) → IsStrictlySortedBy loc_cmp (keys_of all) → es ++ left ≡ all → left ≡ (l, v) ∷ rest → fs ≡ insert_entry loc_cmp es k w → k ≡ l → w ≡ v → fs ++ rest ≡ all
note_copied all es fs left rest l k v w sorted whole next is place value = inserted_next locs_total all es fs left rest l v sorted whole next (is ∙ ap (λ q. insert_entry loc_cmp es q w) place ∙ ap (insert_entry loc_cmp es l) value)

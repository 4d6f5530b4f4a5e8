-- How a content is told from another.
use Rattle.std.specs.Prelude.{ℕ, List, refl, ◌⊎◌, ◌≡◌}
use Rattle.std.proofs.Common.{inl, inr}
use Rattle.std.specs.Coded.{Coded, code_by, coded×, coded⊎, coded_list, coded_ℕ}
use Rattle.std.specs.FinMap as map
use Rattle.std.specs.FinMap.{FinMap}
use Rattle.ps_objects.specs.declared.access.Access.{Access}
use Rattle.ps_objects.specs.declared.object.Object.{Object}
use Rattle.ps_objects.specs.contracts.access.Access as accesses
use Rattle.ps_objects.specs.contracts.key.Key as keys
use Rattle.ps_objects.specs.contracts.object.Object as objects
use Rattle.ps_memory.specs.Order.{key_cmp}
use Rattle.ps_memory.specs.Memory.{Content, dictionary, items, characters}

-- the parts of a content, by its kind
abbrev parts_of : Content → (ℕ × (Access × FinMap key_cmp Object)) ⊎ (List Object ⊎ ℕ)
parts_of (dictionary n a es) = inl (n, (a, es))
parts_of (items xs) = inr (inl xs)
parts_of (characters n) = inr (inr n)

-- the content of such parts
abbrev of_parts : (ℕ × (Access × FinMap key_cmp Object)) ⊎ (List Object ⊎ ℕ) → Content
of_parts (inl p) = dictionary p.0 p.1.0 p.1.1
of_parts (inr (inl xs)) = items xs
of_parts (inr (inr n)) = characters n

-- its parts tell a content
abbrev same_parts : (x : Content) → of_parts (parts_of x) ≡ x
same_parts (dictionary n a es) = refl
same_parts (items xs) = refl
same_parts (characters n) = refl

-- contents are told from each other by their parts
abbrev pub content_code : Coded Content
content_code = code_by _ (coded⊎ (coded× coded_ℕ (coded× accesses.the_row.coded (map.code keys.the_row.coded objects.the_row.coded))) (coded⊎ (coded_list objects.the_row.coded) coded_ℕ)) parts_of of_parts same_parts

-- The lines of the entries of a dictionary that differ from the start's.
use Rattle.std.specs.Prelude.{ℕ, List, [], ◌++◌, codes, if◌then◌else◌}
use Rattle.std.specs.Str.{bytes_eq}
use Rattle.ps_objects.specs.Key.{told_key}
use Rattle.ps_objects.specs.declared.access.Access.{Access}
use Rattle.ps_objects.specs.declared.access.Access.TheVariants as access
use Rattle.ps_objects.specs.declared.key.Key.{Key}
use Rattle.ps_objects.specs.declared.place.Value.{Value}
use Rattle.ps_objects.specs.declared.place.Value.TheVariants as value
use Rattle.ps_objects.specs.contracts.place.ValuePartialEq.TheImpl as same
use Rattle.dump_lines.specs.Objects.{object_text}

-- a value at an entry or an item
abbrev pub value_text : Value → List ℕ
value_text (value.Object x) = object_text x
value_text value.Absent = codes "absent"
value_text _ = []

-- a key is told as an object
abbrev pub key_text : Key → List ℕ
key_text k = object_text (told_key k)

-- a key and a value
unfoldable pub pair_line : Key → Value → List ℕ
pair_line k now = codes " " ++ key_text k ++ codes " " ++ value_text now ++ codes "\n"

-- a key and its value, where that isn't the start's
unfoldable pub entry_line : Key → Value → Value → List ℕ
entry_line k now before = if same.eq-value.it now before then [] else pair_line k now

-- the letter of an access
abbrev pub access_letter : Access → List ℕ
access_letter access.Unlimited = codes "u"
access_letter access.ReadOnly = codes "r"
access_letter access.ExecuteOnly = codes "e"
access_letter access.NoAccess = codes "n"

-- the access of a dictionary; one that doesn't stand has none that differs from a new one's
abbrev pub access_told : Value → List ℕ
access_told (value.Access a) = access_letter a
access_told _ = codes "u"

-- the access, where it isn't the start's, or that of a new dictionary
unfoldable pub access_line : Value → Value → List ℕ
access_line now before =
    if bytes_eq (access_told now) (access_told before) then [] else codes " access " ++ access_told now ++ codes "\n"

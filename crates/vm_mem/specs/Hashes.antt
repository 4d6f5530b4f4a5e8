-- The hash of a key, by which a memory may find an entry.
use Rattle.std.specs.Prelude.{ℕ}
use Rattle.ps_objects.specs.Hash.{name_hash}
use Rattle.ps_objects.specs.declared.key.Key.{Key}
use Rattle.ps_objects.specs.declared.key.Key.TheVariants as key

-- a name's; other keys have none
abbrev pub key_hash : Key → ℕ
key_hash (key.Name n) = name_hash n
key_hash _ = 0

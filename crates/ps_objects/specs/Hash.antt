-- A hash of bytes, for tables that are searched by names: the 64-bit FNV-1a hash of Fowler, Noll and Vo.
use Rattle.std.specs.Prelude.{ℕ, ◌*◌, ◌%◌, ◌^◌, List, bit_xor}
use Rattle.std.specs.List.{fold}

-- one byte more
abbrev pub hash_with : ℕ → ℕ → ℕ
hash_with hash byte = (bit_xor hash byte * 1099511628211) % 2 ^ 64

-- the bytes one after the other, from a start that is part of the hash's definition
abbrev pub name_hash : List ℕ → ℕ
name_hash = fold hash_with 14695981039346656037

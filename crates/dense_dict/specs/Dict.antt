-- Dictionaries as finite maps from keys to seats.
use Rattle.std.specs.Prelude.{Option, Some, None}
use Rattle.std.specs.FinMap.{FinMap, get, insert}
use Rattle.ps_objects.specs.declared.key.Key.{Key}
use Rattle.ps_objects.specs.declared.object.Object.{Object}
use Rattle.ps_memory.specs.Order.{key_cmp}
use Rattle.dense_dict.specs.declared.entries.Seat.{Seat}

-- an object in the seat of a key, where it has one
abbrev pub over_seat : Key → Option Object → FinMap key_cmp Seat → FinMap key_cmp Seat
over_seat k o m = elim (get m k) as (λ _. FinMap key_cmp Seat) [ None ↦ m | Some s ↦ insert m k (record { number = s.number; object = o }) ]

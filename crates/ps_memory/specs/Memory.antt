-- Memory as a whole: what it is, its places, which of them take which values, and what is done to it.
pub use Rattle.ps_objects.specs.Cell.{in_global, is_global, newer}
pub use Rattle.ps_memory.specs.State.{same_save, Content, CellMap, Page, Memory, dictionary, items, characters, here, out}
pub use Rattle.ps_memory.specs.Places.{Slot, Spot, spot_of, Found, object_found, byte_found, page_found, in_content, in_string, part, at, value_found, keys_of, seen_at, value_at, shape_in, shape_at, standing_shape, shape_of, entry, access, item, whole, held, byte, rand, paper, is, shaped}
pub use Rattle.ps_memory.specs.Kinds.{is_slot, is_byte, is_place, is_kind}
pub use Rattle.ps_memory.specs.Actions.{Output, Action, put_entry, put_access, put_item, put_content, put_byte, put_rand, put_page, put_cell, with_part, do_store, null_object, content_of, new_bytes, do_fresh, copy_named, older_than, do_restore, perform, blank, page_out, lift, picture, message, store, fresh, save, restore, tell}

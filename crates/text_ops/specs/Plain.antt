-- The plain text of an object that lies in memory or not.
use Rattle.std.specs.Prelude.{ℕ, Bool, true, List, [], length}
use Rattle.ps_objects.specs.declared.object.Kind.{Kind}
use Rattle.ps_objects.specs.declared.object.Kind.TheVariants as kind
use Rattle.ps_memory.specs.Memory.{Memory}
use Rattle.ps_memory.specs.Tree.{Application}
use Rattle.ps_operator.specs.Tree.{found}
use Rattle.ps_operator.specs.Keys.{bytes_of}
use Rattle.ps_operator.specs.Standing.{is_string}
use Rattle.plain_texts.specs.Plain.{plain_of}
use Rattle.text_ops.specs.declared.plain.Plain.{Plain}
use Rattle.text_ops.specs.declared.plain.Plain.TheVariants as plain

-- the plain text, or the string whose bytes it is
abbrev pub plain_form : Kind → Plain
plain_form (kind.Str part) = plain.Held part
plain_form k = plain.Known (plain_of k [])

-- its length; none of a string's bytes is looked at
abbrev pub plain_length : Plain → ℕ
plain_length (plain.Known text) = length text
plain_length (plain.Held part) = part.len

-- the text; a string is looked at whole
abbrev pub plain_told : Plain → Application (List ℕ)
plain_told (plain.Known text) = found text
plain_told (plain.Held part) = bytes_of part

-- the string stands, where one holds the text
abbrev pub stands : Memory → Plain → Bool
stands M (plain.Known text) = true
stands M (plain.Held part) = is_string M part

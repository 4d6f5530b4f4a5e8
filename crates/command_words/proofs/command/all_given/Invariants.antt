use Rattle.std.proofs.Common.{◌≡◌, drop}
use Rattle.command_words.specs.Options.{AreValues, with_words}
use Rattle.command_words.specs.Words.{nothing_given}
use Rattle.command_words.proofs.command.all_given.Given as goal

abbrev pub invariant-loop-word : goal.invariant-loop-word
invariant-loop-word l = (with_words (drop l.word-index l.options) l.given ≡ with_words l.options nothing_given) × AreValues l.given

use Rattle.dump_text.proofs.memory.dump.Goals as goal

pub push_memory_beside-requires : goal.push_memory_beside-requires
push_memory_beside-requires g c = (c.requires.sound.memory 0).unique

use Rattle.nullsim.proofs.verbose_deck.write_deck_heard.Given as goal

-- the writer's own name
abbrev pub ghosts-write_deck_named : goal.ghosts-write_deck_named
ghosts-write_deck_named g a = record { name = a.writer.beneath.ghost_name }

use Rattle.nullsim.proofs.carrying.carry_out_heard.Given as goal

-- the writer's own name
abbrev pub ghosts-carry_out_named : goal.ghosts-carry_out_named
ghosts-carry_out_named g a = record { name = a.writer.beneath.ghost_name }

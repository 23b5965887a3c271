use Rattle.misreading.proofs.messages.MessageDisplay.fmt.Goals as goal

pub returns-clause-writes : goal.returns-clause-writes
returns-clause-writes g c = rw (c.text.ensures.text, c.or_end.ensures) at c.write.ensures.writes

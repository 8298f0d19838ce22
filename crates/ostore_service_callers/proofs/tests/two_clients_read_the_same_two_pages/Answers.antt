use Rattle.ostore_service_callers.proofs.tests.two_clients_read_the_same_two_pages.Goals as goal

pub two_turns-requires-clause-first : goal.two_turns-requires-clause-first
two_turns-requires-clause-first g c = (c.in_ok-server.ensures.empty 0).held

pub two_turns-requires-clause-second : goal.two_turns-requires-clause-second
two_turns-requires-clause-second g c = (c.in_ok-server.ensures.empty 1).held

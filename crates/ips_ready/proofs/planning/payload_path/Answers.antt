use Rattle.ips_ready.proofs.planning.payload_path.Goals as goal

pub unreachable-requires : goal.unreachable-requires
unreachable-requires c = (rw c.in-None.is at c.in_ok-place.ensures) (c.places_are_paths.ensures.payloads c.args.publisher.now c.args.name.now c.requires.publisher c.requires.name)

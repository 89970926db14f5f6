use Rattle.etps_script.proofs.known.known_names.Goals as goal

pub returns : goal.returns
returns c =
    let tally = c.in_ok-tally in
    record {
      collected = record { tallied = tally.ensures.tallied; seen = tally.ensures.seen; known = c.in_ok-known.ensures };
      free = rw c.as_slice.ensures.all at tally.ensures.free;
    }

use Rattle.std.proofs.Common.{length}
use Rattle.etps_session.specs.Replays.{replay}
use Rattle.etps_script.specs.Lines.{script_lines}
use Rattle.etps_script.specs.Names.{AreNamesOf}
use Rattle.etps_script.proofs.Replying.{Continues}
use Rattle.etps_script.proofs.scripts.run_script.Given as goal

abbrev pub invariant-loop-rest : goal.invariant-loop-rest
invariant-loop-rest l =
    record {
      written : Continues l.session (script_lines l.rest) (script_lines l.bytes) l.out;
      names : AreNamesOf (replay l.session) l.names;
    }

abbrev pub decreases-loop-rest : goal.decreases-loop-rest
decreases-loop-rest l = length l.rest

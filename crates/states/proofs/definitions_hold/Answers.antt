-- The definitions by places, from the lemmas on each.
use Rattle.states.proofs.Places.{each_state_once, fails_in_a_row, ring_fails_around}
use Rattle.states.proofs.Running.{seam_seen}
use Rattle.states.proofs.definitions_hold.Goals as goal

pub returns : goal.returns
returns c = record { once = each_state_once; line = fails_in_a_row; ring = ring_fails_around; seam = seam_seen }

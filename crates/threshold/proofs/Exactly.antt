-- The test of a threshold says what the words do.
-- Assumes nothing.
use Rattle.octets.proofs.Tests.{leb_exactly, both_exactly}
use Rattle.threshold.specs.Threshold.{least_threshold, most_threshold, threshold_right, ThresholdExactly}

pub threshold_exactly : ThresholdExactly
unfolding threshold_right
threshold_exactly t = both_exactly (leb_exactly least_threshold t) (leb_exactly t most_threshold)

-- The demands on the mend, for every record.
-- Assumes nothing.
use Rattle.frame.specs.Rules.{KeySizes}
use Rattle.mend_spec.proofs.Nonces.{due_bytes, due_covers}
use Rattle.mend_spec.proofs.Patches.{patched_bytes, patched-parts}
use Rattle.mend_spec.proofs.Ends.{mend_rows_exactly, mend_rows-ascend, mend_row_ten, mend_row_one, mend_rows_four_to_nine, empty_mend}
use Rattle.mend_spec.proofs.Fresh.{mends_exactly}
use Rattle.vault.specs.Vault.{codec_of}
use Rattle.vault.proofs.Combos.{sized_exactly, laws}
use Rattle.file_mend.specs.Demands.{MendDemand}

pub mend_demand : MendDemand
mend_demand = (
  due_bytes,
  due_covers,
  patched_bytes,
  patched-parts,
  λ v.
      let C = codec_of v in
      let Sized = KeySizes v.enc v.mac in
      let sized = sized_exactly v.combo v.enc v.mac in (
        mend_rows_exactly C Sized sized,
        mend_rows-ascend C Sized sized,
        mend_row_ten C Sized sized,
        mend_row_one C Sized sized,
        mend_rows_four_to_nine C Sized sized,
        empty_mend C Sized sized,
        λ k. mends_exactly C (laws v.combo v.enc v.mac k.enc-size k.mac-size k.enc-bytes),
      ),
)

-- At each exit the lines before it do not hold, and the one that it names does.
use Rattle.std.proofs.Common.{Some, None, false}
use Rattle.kernel_core.proofs.KeyblockTables.{HashViewed, hashed_view_fault, hashed_seal_fault, hashed_key_fault, no_hashed_fault}
use Rattle.kernel_core.proofs.KeyblockTables.{hash_read, key_read}
use Rattle.kernel_core.proofs.hashed.check_hashed.Goals as goal

pub returns-in-Err-clause-fault : goal.returns-in-Err-clause-fault
returns-in-Err-clause-fault c = hashed_view_fault c.args.bytes.now c.in-Err.fault c.in-Err.ensures.fault

pub returns-in-Some-clause-fault : goal.returns-in-Some-clause-fault
returns-in-Some-clause-fault c =
    let keyblock = c.in-Ok.keyblock in
    let viewed : HashViewed c.args.bytes.now keyblock = record { none = c.in-Ok.ensures.none; parts = c.in-Ok.ensures.parts; seal_size = c.in-Ok.ensures.fits.seal_length; key_size = c.in-Ok.ensures.fits.key_length } in
    hashed_seal_fault c.args.bytes.now keyblock c.in-Some.fault viewed
    (hash_read keyblock _ _ _ (Some c.in-Some.fault) c.seal_bytes.ensures c.signed.ensures c.hash_fault.ensures c.in-Some.is)

pub returns-in-Some-data_key_fault-clause-fault : goal.returns-in-Some-data_key_fault-clause-fault
returns-in-Some-data_key_fault-clause-fault c =
    let keyblock = c.in-Ok.keyblock in
    let viewed : HashViewed c.args.bytes.now keyblock = record { none = c.in-Ok.ensures.none; parts = c.in-Ok.ensures.parts; seal_size = c.in-Ok.ensures.fits.seal_length; key_size = c.in-Ok.ensures.fits.key_length } in
    hashed_key_fault c.args.bytes.now keyblock c.in-Some-data_key_fault.fault viewed
    (hash_read keyblock _ _ _ None c.seal_bytes.ensures c.signed.ensures c.hash_fault.ensures c.in_default.is)
    (key_read keyblock.data_key _ 0 false _ (Some c.in-Some-data_key_fault.fault) c.data_key.ensures c.data_key_fault.ensures c.in-Some-data_key_fault.is)

pub returns-clause-none : goal.returns-clause-none
returns-clause-none c =
    let keyblock = c.in-Ok.keyblock in
    let viewed : HashViewed c.args.bytes.now keyblock = record { none = c.in-Ok.ensures.none; parts = c.in-Ok.ensures.parts; seal_size = c.in-Ok.ensures.fits.seal_length; key_size = c.in-Ok.ensures.fits.key_length } in
    no_hashed_fault c.args.bytes.now keyblock viewed
    (hash_read keyblock _ _ _ None c.seal_bytes.ensures c.signed.ensures c.hash_fault.ensures c.in_default.is)
    (key_read keyblock.data_key _ 0 false _ None c.data_key.ensures c.data_key_fault.ensures c.in_default-data_key_fault.is)

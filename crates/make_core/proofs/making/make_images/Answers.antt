use Rattle.std.proofs.Common.{refl, ap}
use Rattle.make_core.specs.Drive.{drive_bytes, machine_disk}
use Rattle.make_core.proofs.DriveWrites.{drive_as}
use Rattle.make_core.proofs.making.make_images.Goals as goal

pub returns-in_default : goal.returns-in_default
returns-in_default g c = (refl, record { flash = c.in_default.ensures; rest = refl })

pub returns-in_default-write_spaces : goal.returns-in_default-write_spaces
returns-in_default-write_spaces g c = (refl, record { flash = c.in-Ok.ensures; tpm = c.in_default-write_spaces.ensures; rest = refl })

pub returns-in_default-write_drive : goal.returns-in_default-write_drive
unfolding machine_disk
returns-in_default-write_drive g c = (
  refl,
  record {
    flash = c.in-Ok.ensures;
    tpm = c.in-Ok-write_spaces.ensures;
    disk = drive_as _ _ _ _ _ (ap (drive_bytes c.args.number) c.make_disk.ensures.value) c.in_default-write_drive.ensures;
    rest = refl;
  },
)

pub returns-in_default-write_stick : goal.returns-in_default-write_stick
unfolding machine_disk
returns-in_default-write_stick g c = (
  refl,
  record {
    flash = c.in-Ok.ensures;
    tpm = c.in-Ok-write_spaces.ensures;
    disk = drive_as _ _ _ _ _ (ap (drive_bytes c.args.number) c.make_disk.ensures.value) c.in-Ok-write_drive.ensures;
    stick = c.in_default-write_stick.ensures;
    rest = refl;
  },
)

pub returns : goal.returns
unfolding machine_disk
returns g c = record {
  flash = c.in-Ok.ensures;
  tpm = c.in-Ok-write_spaces.ensures;
  disk = drive_as _ _ _ _ _ (ap (drive_bytes c.args.number) c.make_disk.ensures.value) c.in-Ok-write_drive.ensures;
  stick = c.in-Ok-write_stick.ensures;
  hook = refl;
  map_at = refl;
}

use Rattle.std.proofs.Common.{◌≡◌, inl, inr, ap, sym, ◌∙◌}
use Rattle.make_core.specs.Drive.{drive_bytes, machine_stick}
use Rattle.make_core.proofs.DriveWrites.{stick_absent, stick_there, drive_as}
use Rattle.make_core.proofs.drive_writing.write_stick.Goals as goal

pub returns-then-sectors-eq0 : goal.returns-then-sectors-eq0
returns-then-sectors-eq0 g c = stick_absent (machine_stick c.args.number) _ _ (sym c.sectors.ensures.sectors ∙ c.if-sectors-eq0.true)

pub write_drive-requires-clause-size : goal.write_drive-requires-clause-size
write_drive-requires-clause-size g c =
    elim c.requires.size [ inl none ↦ absurd (c.if-sectors-eq0.false (c.sectors.ensures.sectors ∙ none)) | inr all ↦ all ]

pub returns : goal.returns
unfolding machine_stick
returns g c =
    let many : (g.D.Disk.state c.args.stick.now).medium.sectors ≡ 16384 =
    elim c.requires.size [ inl none ↦ absurd (c.if-sectors-eq0.false (c.sectors.ensures.sectors ∙ none)) | inr all ↦ all ] in
    stick_there _ _ (machine_stick c.args.number) _ _ many
    (drive_as _ _ _ _ _ (ap (drive_bytes c.args.number) c.make_stick.ensures.value) c.write_drive.ensures)

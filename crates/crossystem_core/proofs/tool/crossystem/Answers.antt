-- A word is refused, the map has a fault, a device failed, the record or the lines could not be put, or all was done.
use Rattle.std.proofs.Common.{◌≡◌, ◌∙◌, ℕ, sym, ap, subst, rules, List, map, Some, None, Result, Ok}
use Rattle.std.specs.String.{string_bytes}
use Rattle.board_core.specs.declared.device.Failed.{Failed}
use Rattle.board_core.specs.Flash.{FlashState}
use Rattle.board_core.specs.Tpm.{TpmState}
use Rattle.rom_core.specs.declared.fault.MapFault.{MapFault}
use Rattle.crossystem_core.specs.declared.showing.CrossView.{CrossView}
use Rattle.crossystem_core.specs.declared.running.Ends.{Ends}
use Rattle.crossystem_core.specs.Words.{refused_from}
use Rattle.crossystem_core.specs.Reading.{ReadsView}
use Rattle.crossystem_core.specs.Crossing.{Stores, change_of}
use Rattle.crossystem_core.proofs.Crossed.{crosses_refused, crosses_bad_flash, crosses_unread, crosses_unstored, crosses_unput, crosses_differs, crosses_ok}
use Rattle.crossystem_core.proofs.tool.crossystem.Goals as goal

pub returns-in-Some : goal.returns-in-Some
returns-in-Some g c =
    let words : List (List ℕ) = map string_bytes c.args.words.now in
    let is : refused_from 1 words ≡ Some (record { word = c.in-Some.field-0.word; code = c.in-Some.field-0.code }) = sym c.first_refusal.ensures ∙ c.in-Some.is in
    crosses_refused c.args.map_at words _ _ _ c.in-Some.field-0.word c.in-Some.field-0.code is

read_as : (at : ℕ) (old mid : FlashState) (tpm tpm' : TpmState) (answer seen : Result CrossView MapFault) → answer ≡ seen
    → ReadsView at old mid tpm tpm' (Ok answer) → ReadsView at old mid tpm tpm' (Ok seen)
read_as at old mid tpm tpm' answer seen is = subst (λ (r : Result CrossView MapFault). ReadsView at old mid tpm tpm' (Ok r)) is

stores_as : (seen : CrossView) (mid new : FlashState) (result : Result Unit Failed) (ends ends' : Ends) → ends ≡ ends'
    → Stores seen (change_of seen ends) mid new result → Stores seen (change_of seen ends') mid new result
stores_as seen mid new result ends ends' is = subst (λ (e : Ends). Stores seen (change_of seen e) mid new result) is

pub returns-in-Ok-Err : goal.returns-in-Ok-Err
returns-in-Ok-Err g c =
    let accepted : c.first_refusal.result ≡ None = search rules in
    crosses_bad_flash c.args.map_at _ (sym c.first_refusal.ensures ∙ accepted) _ _ _ _ (g.O.Sink.state c.args.out.now) c.in-Ok-Err.fault
    (read_as _ _ _ _ _ _ _ c.in-Ok-Err.field-0-is c.in-Ok-Err.ensures)

pub returns-in-Err : goal.returns-in-Err
returns-in-Err g c =
    let accepted : c.first_refusal.result ≡ None = search rules in
    crosses_unread c.args.map_at _ (sym c.first_refusal.ensures ∙ accepted) _ _ _ _ (g.O.Sink.state c.args.out.now) c.in-Err.device c.in-Err.ensures

pub returns-in_default-store : goal.returns-in_default-store
returns-in_default-store g c =
    let accepted : c.first_refusal.result ≡ None = search rules in
    crosses_unstored c.args.map_at _ (sym c.first_refusal.ensures ∙ accepted) _ _ _ _ c.in-Ok-Ok.seen (read_as _ _ _ _ _ _ _ c.in-Ok-Ok.field-0-is c.in-Ok-Ok.ensures) _
    c.in_default-store.field-0 (stores_as c.in-Ok-Ok.seen _ _ _ _ _ c.work_words-ends.ensures c.in_default-store.ensures) (g.O.Sink.state c.args.out.now)

pub returns-in_default-put_lines : goal.returns-in_default-put_lines
returns-in_default-put_lines g c =
    let accepted : c.first_refusal.result ≡ None = search rules in
    crosses_unput c.args.map_at _ (sym c.first_refusal.ensures ∙ accepted) _ _ _ _ c.in-Ok-Ok.seen (read_as _ _ _ _ _ _ _ c.in-Ok-Ok.field-0-is c.in-Ok-Ok.ensures) _
    (stores_as c.in-Ok-Ok.seen _ _ (Ok tt) _ _ c.work_words-ends.ensures c.in-Ok.ensures) _ _ c.in_default-put_lines.field-0 c.in_default-put_lines.ensures

pub returns-in-Some-differs : goal.returns-in-Some-differs
returns-in-Some-differs g c =
    let accepted : c.first_refusal.result ≡ None = search rules in
    crosses_differs c.args.map_at _ (sym c.first_refusal.ensures ∙ accepted) _ _ _ _ c.in-Ok-Ok.seen (read_as _ _ _ _ _ _ _ c.in-Ok-Ok.field-0-is c.in-Ok-Ok.ensures) _
    (stores_as c.in-Ok-Ok.seen _ _ (Ok tt) _ _ c.work_words-ends.ensures c.in-Ok.ensures) _ _ c.in-Some-differs.word
    (ap (λ (e : Ends). e.differs) (sym c.work_words-ends.ensures) ∙ c.in-Some-differs.is) c.in-Ok-put_lines.ensures

pub returns-in-None : goal.returns-in-None
returns-in-None g c =
    let accepted : c.first_refusal.result ≡ None = search rules in
    crosses_ok c.args.map_at _ (sym c.first_refusal.ensures ∙ accepted) _ _ _ _ c.in-Ok-Ok.seen (read_as _ _ _ _ _ _ _ c.in-Ok-Ok.field-0-is c.in-Ok-Ok.ensures) _
    (stores_as c.in-Ok-Ok.seen _ _ (Ok tt) _ _ c.work_words-ends.ensures c.in-Ok.ensures) _ _
    (ap (λ (e : Ends). e.differs) (sym c.work_words-ends.ensures) ∙ c.in-None.is) c.in-Ok-put_lines.ensures

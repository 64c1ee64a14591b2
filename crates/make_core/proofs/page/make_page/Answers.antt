use Rattle.std.proofs.Common.{inl, inr, ◌∙◌, ◌*◌, ℕ, sym, ap, arith}
use Rattle.board_core.specs.Flash.{range}
use Rattle.make_core.specs.Layout.{padded_page, machine_flash}
use Rattle.make_core.proofs.FlashPages.{map_page-is, gbb_page-is, nv_page-is, vblock_a_page-is, vblock_b_page-is, main_a_page-is, main_b_page-is, blank_page-is, other}
use Rattle.make_core.proofs.page.make_page.Goals as goal
use Rattle.make_core.proofs.page.make_page.Goals.{in_default-via-then-page-lt32, in_default-via-else-page-lt32+else-page-lt64+then-page-lt80, in_default-via-else-page-lt32+else-page-lt64+else-page-lt80+else-page-lt112}

pub returns-in-1 : goal.returns-in-1
returns-in-1 c = c.make_padded_page.ensures ∙ ap padded_page c.make_map.ensures ∙ map_page-is c.args.number ∙ ap (λ (k : ℕ). range (machine_flash c.args.number) (k * 4096) 4096) (sym c.in-1.is)

pub returns-in-2 : goal.returns-in-2
returns-in-2 c = c.make_padded_page-in-2.ensures ∙ ap padded_page c.make_gbb.ensures ∙ gbb_page-is c.args.number ∙ ap (λ (k : ℕ). range (machine_flash c.args.number) (k * 4096) 4096) (sym c.in-2.is)

pub returns-in-8 : goal.returns-in-8
returns-in-8 c = c.make_padded_page-in-8.ensures ∙ nv_page-is c.args.number ∙ ap (λ (k : ℕ). range (machine_flash c.args.number) (k * 4096) 4096) (sym c.in-8.is)

pub returns-in-16 : goal.returns-in-16
returns-in-16 c = c.make_padded_page-in-16.ensures ∙ ap padded_page c.make_vblock.ensures ∙ vblock_a_page-is c.args.number ∙ ap (λ (k : ℕ). range (machine_flash c.args.number) (k * 4096) 4096) (sym c.in-16.is)

pub returns-in-64 : goal.returns-in-64
returns-in-64 c = c.make_padded_page-in-64.ensures ∙ ap padded_page c.make_vblock-in-64.ensures ∙ vblock_b_page-is c.args.number ∙ ap (λ (k : ℕ). range (machine_flash c.args.number) (k * 4096) 4096) (sym c.in-64.is)

pub returns-in-32-to-63 : goal.returns-in-32-to-63
returns-in-32-to-63 c = c.make_body_page.ensures ∙ main_a_page-is c.args.number c.args.page c.requires (omega arith) (omega arith)

pub returns-in-80-to-111 : goal.returns-in-80-to-111
returns-in-80-to-111 c = c.make_body_page-in-80-to-111.ensures ∙ main_b_page-is c.args.number c.args.page c.requires (omega arith) (omega arith)

pub returns-in_default : goal.returns-in_default
returns-in_default c =
    elim c.in_default.branch [
      | in_default-via-then-page-lt32 w ↦ c.make_erased_page.ensures ∙ blank_page-is c.args.number c.args.page c.requires (other c.args.page 1 (λ e. omega arith)) (other c.args.page 2 (λ e. omega arith)) (other c.args.page 8 (λ e. omega arith)) (other c.args.page 16 (λ e. omega arith)) (inl (omega arith)) (inl (omega arith)) (inl (omega arith))
      | in_default-via-else-page-lt32+else-page-lt64+then-page-lt80 w ↦ c.make_erased_page.ensures ∙ blank_page-is c.args.number c.args.page c.requires (inr (omega arith)) (inr (omega arith)) (inr (omega arith)) (inr (omega arith)) (inr (omega arith)) (other c.args.page 64 (λ e. omega arith)) (inl (omega arith))
      | in_default-via-else-page-lt32+else-page-lt64+else-page-lt80+else-page-lt112 w ↦ c.make_erased_page.ensures ∙ blank_page-is c.args.number c.args.page c.requires (inr (omega arith)) (inr (omega arith)) (inr (omega arith)) (inr (omega arith)) (inr (omega arith)) (inr (omega arith)) (inr (omega arith))
    ]

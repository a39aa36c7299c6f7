-- Each public function's contract, as the toolchain reads it off the source, permits one answer, and one content of each slice that is lent to be written.
-- Assumes nothing.
use mathlib.Core.Path.{sym, ◌∙◌}
use Rattle.answer.specs.Determined.{OneAnswer, OnePart}
use Rattle.menkhodur_c.proofs.menkhodur_version.Reads as menkhodur-version
use Rattle.menkhodur_c.proofs.menkhodur_version.Kinds as menkhodur-version·k
use Rattle.menkhodur_c.proofs.menkhodur_make_square.Reads as menkhodur-make-square
use Rattle.menkhodur_c.proofs.menkhodur_make_square.Kinds as menkhodur-make-square·k
use Rattle.menkhodur_c.proofs.menkhodur_rights_add.Reads as menkhodur-rights-add
use Rattle.menkhodur_c.proofs.menkhodur_rights_add.Kinds as menkhodur-rights-add·k
use Rattle.menkhodur_c.proofs.menkhodur_rights_remove.Reads as menkhodur-rights-remove
use Rattle.menkhodur_c.proofs.menkhodur_rights_remove.Kinds as menkhodur-rights-remove·k
use Rattle.menkhodur_c.proofs.menkhodur_square_rights.Reads as menkhodur-square-rights
use Rattle.menkhodur_c.proofs.menkhodur_square_rights.Kinds as menkhodur-square-rights·k
use Rattle.menkhodur_c.proofs.menkhodur_piece.Reads as menkhodur-piece
use Rattle.menkhodur_c.proofs.menkhodur_piece.Kinds as menkhodur-piece·k
use Rattle.menkhodur_c.proofs.menkhodur_clear_square.Reads as menkhodur-clear-square
use Rattle.menkhodur_c.proofs.menkhodur_clear_square.Kinds as menkhodur-clear-square·k
use Rattle.menkhodur_c.proofs.menkhodur_side_to_move.Reads as menkhodur-side-to-move
use Rattle.menkhodur_c.proofs.menkhodur_side_to_move.Kinds as menkhodur-side-to-move·k
use Rattle.menkhodur_c.proofs.menkhodur_castle_rights.Reads as menkhodur-castle-rights
use Rattle.menkhodur_c.proofs.menkhodur_castle_rights.Kinds as menkhodur-castle-rights·k
use Rattle.menkhodur_c.proofs.menkhodur_en_passant.Reads as menkhodur-en-passant
use Rattle.menkhodur_c.proofs.menkhodur_en_passant.Kinds as menkhodur-en-passant·k
use Rattle.menkhodur_c.proofs.menkhodur_half_moves.Reads as menkhodur-half-moves
use Rattle.menkhodur_c.proofs.menkhodur_half_moves.Kinds as menkhodur-half-moves·k
use Rattle.menkhodur_c.proofs.menkhodur_full_moves.Reads as menkhodur-full-moves
use Rattle.menkhodur_c.proofs.menkhodur_full_moves.Kinds as menkhodur-full-moves·k
use Rattle.menkhodur_c.proofs.menkhodur_board_after.Reads as menkhodur-board-after
use Rattle.menkhodur_c.proofs.menkhodur_board_after.Kinds as menkhodur-board-after·k
use Rattle.menkhodur_c.proofs.menkhodur_board_settled.Reads as menkhodur-board-settled
use Rattle.menkhodur_c.proofs.menkhodur_board_settled.Kinds as menkhodur-board-settled·k
use Rattle.menkhodur_c.proofs.menkhodur_fen_read.Reads as menkhodur-fen-read
use Rattle.menkhodur_c.proofs.menkhodur_fen_read.Kinds as menkhodur-fen-read·k
use Rattle.menkhodur_c.proofs.menkhodur_fen_read_full.Reads as menkhodur-fen-read-full
use Rattle.menkhodur_c.proofs.menkhodur_fen_read_full.Kinds as menkhodur-fen-read-full·k
use Rattle.menkhodur_c.proofs.menkhodur_fen_page.Reads as menkhodur-fen-page
use Rattle.menkhodur_c.proofs.menkhodur_fen_page.Kinds as menkhodur-fen-page·k
use Rattle.menkhodur_c.proofs.menkhodur_fen_report.Reads as menkhodur-fen-report
use Rattle.menkhodur_c.proofs.menkhodur_fen_report.Kinds as menkhodur-fen-report·k
use Rattle.menkhodur_c.proofs.menkhodur_fen_write.Reads as menkhodur-fen-write
use Rattle.menkhodur_c.proofs.menkhodur_fen_write.Kinds as menkhodur-fen-write·k
use Rattle.menkhodur_c.proofs.menkhodur_fen_write_full.Reads as menkhodur-fen-write-full
use Rattle.menkhodur_c.proofs.menkhodur_fen_write_full.Kinds as menkhodur-fen-write-full·k
use Rattle.menkhodur_c.proofs.menkhodur_fen_settled.Reads as menkhodur-fen-settled
use Rattle.menkhodur_c.proofs.menkhodur_fen_settled.Kinds as menkhodur-fen-settled·k
use Rattle.menkhodur_c.proofs.menkhodur_move_read.Reads as menkhodur-move-read
use Rattle.menkhodur_c.proofs.menkhodur_move_read.Kinds as menkhodur-move-read·k
use Rattle.menkhodur_c.proofs.menkhodur_move_write.Reads as menkhodur-move-write
use Rattle.menkhodur_c.proofs.menkhodur_move_write.Kinds as menkhodur-move-write·k
use Rattle.menkhodur_c.proofs.menkhodur_san_read.Reads as menkhodur-san-read
use Rattle.menkhodur_c.proofs.menkhodur_san_read.Kinds as menkhodur-san-read·k
use Rattle.menkhodur_c.proofs.menkhodur_san_name.Reads as menkhodur-san-name
use Rattle.menkhodur_c.proofs.menkhodur_san_name.Kinds as menkhodur-san-name·k
use Rattle.menkhodur_c.proofs.menkhodur_san_read_standard.Reads as menkhodur-san-read-standard
use Rattle.menkhodur_c.proofs.menkhodur_san_read_standard.Kinds as menkhodur-san-read-standard·k
use Rattle.menkhodur_c.proofs.menkhodur_san_name_standard.Reads as menkhodur-san-name-standard
use Rattle.menkhodur_c.proofs.menkhodur_san_name_standard.Kinds as menkhodur-san-name-standard·k
use Rattle.menkhodur_c.proofs.menkhodur_game_start.Reads as menkhodur-game-start
use Rattle.menkhodur_c.proofs.menkhodur_game_start.Kinds as menkhodur-game-start·k
use Rattle.menkhodur_c.proofs.menkhodur_game_make_move.Reads as menkhodur-game-make-move
use Rattle.menkhodur_c.proofs.menkhodur_game_make_move.Kinds as menkhodur-game-make-move·k
use Rattle.menkhodur_c.proofs.menkhodur_game_offer_draw.Reads as menkhodur-game-offer-draw
use Rattle.menkhodur_c.proofs.menkhodur_game_offer_draw.Kinds as menkhodur-game-offer-draw·k
use Rattle.menkhodur_c.proofs.menkhodur_game_resign.Reads as menkhodur-game-resign
use Rattle.menkhodur_c.proofs.menkhodur_game_resign.Kinds as menkhodur-game-resign·k
use Rattle.menkhodur_c.proofs.menkhodur_game_accept_draw.Reads as menkhodur-game-accept-draw
use Rattle.menkhodur_c.proofs.menkhodur_game_accept_draw.Kinds as menkhodur-game-accept-draw·k
use Rattle.menkhodur_c.proofs.menkhodur_game_declare_draw.Reads as menkhodur-game-declare-draw
use Rattle.menkhodur_c.proofs.menkhodur_game_declare_draw.Kinds as menkhodur-game-declare-draw·k
use Rattle.menkhodur_c.proofs.menkhodur_game_result.Reads as menkhodur-game-result
use Rattle.menkhodur_c.proofs.menkhodur_game_result.Kinds as menkhodur-game-result·k
use Rattle.menkhodur_c.proofs.menkhodur_game_can_declare_draw.Reads as menkhodur-game-can-declare-draw
use Rattle.menkhodur_c.proofs.menkhodur_game_can_declare_draw.Kinds as menkhodur-game-can-declare-draw·k
use Rattle.menkhodur_c.proofs.menkhodur_game_can_claim_by_laws.Reads as menkhodur-game-can-claim-by-laws
use Rattle.menkhodur_c.proofs.menkhodur_game_can_claim_by_laws.Kinds as menkhodur-game-can-claim-by-laws·k
use Rattle.menkhodur_c.proofs.menkhodur_game_ruling.Reads as menkhodur-game-ruling
use Rattle.menkhodur_c.proofs.menkhodur_game_ruling.Kinds as menkhodur-game-ruling·k
use Rattle.menkhodur_c.proofs.menkhodur_roll_write.Reads as menkhodur-roll-write
use Rattle.menkhodur_c.proofs.menkhodur_roll_write.Kinds as menkhodur-roll-write·k
use Rattle.menkhodur_c.proofs.menkhodur_roll_read.Reads as menkhodur-roll-read
use Rattle.menkhodur_c.proofs.menkhodur_roll_read.Kinds as menkhodur-roll-read·k
use Rattle.menkhodur_c.proofs.menkhodur_roll_read_old.Reads as menkhodur-roll-read-old
use Rattle.menkhodur_c.proofs.menkhodur_roll_read_old.Kinds as menkhodur-roll-read-old·k
use Rattle.menkhodur_c.proofs.menkhodur_roll_differences.Reads as menkhodur-roll-differences
use Rattle.menkhodur_c.proofs.menkhodur_roll_differences.Kinds as menkhodur-roll-differences·k
use Rattle.menkhodur_c.proofs.menkhodur_pgn_check.Reads as menkhodur-pgn-check
use Rattle.menkhodur_c.proofs.menkhodur_pgn_check.Kinds as menkhodur-pgn-check·k
use Rattle.menkhodur_c.proofs.menkhodur_pgn_next.Reads as menkhodur-pgn-next
use Rattle.menkhodur_c.proofs.menkhodur_pgn_next.Kinds as menkhodur-pgn-next·k
use Rattle.menkhodur_c.proofs.menkhodur_game_step.Reads as menkhodur-game-step
use Rattle.menkhodur_c.proofs.menkhodur_game_step.Kinds as menkhodur-game-step·k
use Rattle.menkhodur_c.proofs.menkhodur_play.Reads as menkhodur-play
use Rattle.menkhodur_c.proofs.menkhodur_play.Kinds as menkhodur-play·k
use Rattle.menkhodur_c.proofs.menkhodur_in_check.Reads as menkhodur-in-check
use Rattle.menkhodur_c.proofs.menkhodur_in_check.Kinds as menkhodur-in-check·k
use Rattle.menkhodur_c.proofs.menkhodur_legal_list.Reads as menkhodur-legal-list
use Rattle.menkhodur_c.proofs.menkhodur_legal_list.Kinds as menkhodur-legal-list·k
use Rattle.menkhodur_c.proofs.menkhodur_list_judged.Reads as menkhodur-list-judged
use Rattle.menkhodur_c.proofs.menkhodur_list_judged.Kinds as menkhodur-list-judged·k

pub menkhodur_version_answer : OneAnswer menkhodur-version·k.ps menkhodur-version·k.r menkhodur-version.Learnt
menkhodur_version_answer κs a x y e f p q = p ∙ sym q

pub menkhodur_make_square_answer : OneAnswer menkhodur-make-square·k.ps menkhodur-make-square·k.r menkhodur-make-square.Learnt
menkhodur_make_square_answer κs a x y e f p q = p ∙ sym q

pub menkhodur_rights_add_answer : OneAnswer menkhodur-rights-add·k.ps menkhodur-rights-add·k.r menkhodur-rights-add.Learnt
menkhodur_rights_add_answer κs a x y e f p q = p ∙ sym q

pub menkhodur_rights_remove_answer : OneAnswer menkhodur-rights-remove·k.ps menkhodur-rights-remove·k.r menkhodur-rights-remove.Learnt
menkhodur_rights_remove_answer κs a x y e f p q = p ∙ sym q

pub menkhodur_square_rights_answer : OneAnswer menkhodur-square-rights·k.ps menkhodur-square-rights·k.r menkhodur-square-rights.Learnt
menkhodur_square_rights_answer κs a x y e f p q = p ∙ sym q

pub menkhodur_piece_answer : OneAnswer menkhodur-piece·k.ps menkhodur-piece·k.r menkhodur-piece.Learnt
menkhodur_piece_answer κs a x y e f p q = p ∙ sym q

pub menkhodur_clear_square_answer : OneAnswer menkhodur-clear-square·k.ps menkhodur-clear-square·k.r menkhodur-clear-square.Learnt
menkhodur_clear_square_answer κs a x y e f p q = p ∙ sym q

pub menkhodur_side_to_move_answer : OneAnswer menkhodur-side-to-move·k.ps menkhodur-side-to-move·k.r menkhodur-side-to-move.Learnt
menkhodur_side_to_move_answer κs a x y e f p q = p ∙ sym q

pub menkhodur_castle_rights_answer : OneAnswer menkhodur-castle-rights·k.ps menkhodur-castle-rights·k.r menkhodur-castle-rights.Learnt
menkhodur_castle_rights_answer κs a x y e f p q = p ∙ sym q

pub menkhodur_en_passant_answer : OneAnswer menkhodur-en-passant·k.ps menkhodur-en-passant·k.r menkhodur-en-passant.Learnt
menkhodur_en_passant_answer κs a x y e f p q = p ∙ sym q

pub menkhodur_half_moves_answer : OneAnswer menkhodur-half-moves·k.ps menkhodur-half-moves·k.r menkhodur-half-moves.Learnt
menkhodur_half_moves_answer κs a x y e f p q = p ∙ sym q

pub menkhodur_full_moves_answer : OneAnswer menkhodur-full-moves·k.ps menkhodur-full-moves·k.r menkhodur-full-moves.Learnt
menkhodur_full_moves_answer κs a x y e f p q = p ∙ sym q

pub menkhodur_board_after_answer : OneAnswer menkhodur-board-after·k.ps menkhodur-board-after·k.r menkhodur-board-after.Learnt
menkhodur_board_after_answer κs a x y e f p q = p ∙ sym q

pub menkhodur_board_settled_answer : OneAnswer menkhodur-board-settled·k.ps menkhodur-board-settled·k.r menkhodur-board-settled.Learnt
menkhodur_board_settled_answer κs a x y e f p q = p ∙ sym q

pub menkhodur_fen_read_answer : OneAnswer menkhodur-fen-read·k.ps menkhodur-fen-read·k.r menkhodur-fen-read.Learnt
menkhodur_fen_read_answer κs a x y e f p q = p ∙ sym q

pub menkhodur_fen_read_full_answer : OneAnswer menkhodur-fen-read-full·k.ps menkhodur-fen-read-full·k.r menkhodur-fen-read-full.Learnt
menkhodur_fen_read_full_answer κs a x y e f p q = p ∙ sym q

pub menkhodur_fen_page_answer : OneAnswer menkhodur-fen-page·k.ps menkhodur-fen-page·k.r menkhodur-fen-page.Learnt
menkhodur_fen_page_answer κs a x y e f p q = p.0 ∙ sym q.0

pub menkhodur_fen_page_records : OnePart menkhodur-fen-page·k.ps menkhodur-fen-page·k.r (λ κs x e. e.1.0.now) menkhodur-fen-page.Learnt
menkhodur_fen_page_records κs a x y e f p q = p.1.0 ∙ sym q.1.0

pub menkhodur_fen_page_numbers : OnePart menkhodur-fen-page·k.ps menkhodur-fen-page·k.r (λ κs x e. e.1.1.0.now) menkhodur-fen-page.Learnt
menkhodur_fen_page_numbers κs a x y e f p q = p.1.1 ∙ sym q.1.1

pub menkhodur_fen_report_answer : OneAnswer menkhodur-fen-report·k.ps menkhodur-fen-report·k.r menkhodur-fen-report.Learnt
menkhodur_fen_report_answer κs a x y e f p q = p.0 ∙ sym q.0

pub menkhodur_fen_report_records : OnePart menkhodur-fen-report·k.ps menkhodur-fen-report·k.r (λ κs x e. e.1.0.now) menkhodur-fen-report.Learnt
menkhodur_fen_report_records κs a x y e f p q = p.1.0 ∙ sym q.1.0

pub menkhodur_fen_report_numbers : OnePart menkhodur-fen-report·k.ps menkhodur-fen-report·k.r (λ κs x e. e.1.1.0.now) menkhodur-fen-report.Learnt
menkhodur_fen_report_numbers κs a x y e f p q = p.1.1 ∙ sym q.1.1

pub menkhodur_fen_write_answer : OneAnswer menkhodur-fen-write·k.ps menkhodur-fen-write·k.r menkhodur-fen-write.Learnt
menkhodur_fen_write_answer κs a x y e f p q = p.0 ∙ sym q.0

pub menkhodur_fen_write_out : OnePart menkhodur-fen-write·k.ps menkhodur-fen-write·k.r (λ κs x e. e.1.0.now) menkhodur-fen-write.Learnt
menkhodur_fen_write_out κs a x y e f p q = p.1 ∙ sym q.1

pub menkhodur_fen_write_full_answer : OneAnswer menkhodur-fen-write-full·k.ps menkhodur-fen-write-full·k.r menkhodur-fen-write-full.Learnt
menkhodur_fen_write_full_answer κs a x y e f p q = p.0 ∙ sym q.0

pub menkhodur_fen_write_full_out : OnePart menkhodur-fen-write-full·k.ps menkhodur-fen-write-full·k.r (λ κs x e. e.1.0.now) menkhodur-fen-write-full.Learnt
menkhodur_fen_write_full_out κs a x y e f p q = p.1 ∙ sym q.1

pub menkhodur_fen_settled_answer : OneAnswer menkhodur-fen-settled·k.ps menkhodur-fen-settled·k.r menkhodur-fen-settled.Learnt
menkhodur_fen_settled_answer κs a x y e f p q = p.0 ∙ sym q.0

pub menkhodur_fen_settled_out : OnePart menkhodur-fen-settled·k.ps menkhodur-fen-settled·k.r (λ κs x e. e.1.0.now) menkhodur-fen-settled.Learnt
menkhodur_fen_settled_out κs a x y e f p q = p.1 ∙ sym q.1

pub menkhodur_move_read_answer : OneAnswer menkhodur-move-read·k.ps menkhodur-move-read·k.r menkhodur-move-read.Learnt
menkhodur_move_read_answer κs a x y e f p q = p ∙ sym q

pub menkhodur_move_write_answer : OneAnswer menkhodur-move-write·k.ps menkhodur-move-write·k.r menkhodur-move-write.Learnt
menkhodur_move_write_answer κs a x y e f p q = p.0 ∙ sym q.0

pub menkhodur_move_write_out : OnePart menkhodur-move-write·k.ps menkhodur-move-write·k.r (λ κs x e. e.1.0.now) menkhodur-move-write.Learnt
menkhodur_move_write_out κs a x y e f p q = p.1 ∙ sym q.1

pub menkhodur_san_read_answer : OneAnswer menkhodur-san-read·k.ps menkhodur-san-read·k.r menkhodur-san-read.Learnt
menkhodur_san_read_answer κs a x y e f p q = p ∙ sym q

pub menkhodur_san_name_answer : OneAnswer menkhodur-san-name·k.ps menkhodur-san-name·k.r menkhodur-san-name.Learnt
menkhodur_san_name_answer κs a x y e f p q = p.0 ∙ sym q.0

pub menkhodur_san_name_out : OnePart menkhodur-san-name·k.ps menkhodur-san-name·k.r (λ κs x e. e.1.1.1.0.now) menkhodur-san-name.Learnt
menkhodur_san_name_out κs a x y e f p q = p.1 ∙ sym q.1

pub menkhodur_san_read_standard_answer : OneAnswer menkhodur-san-read-standard·k.ps menkhodur-san-read-standard·k.r menkhodur-san-read-standard.Learnt
menkhodur_san_read_standard_answer κs a x y e f p q = p ∙ sym q

pub menkhodur_san_name_standard_answer : OneAnswer menkhodur-san-name-standard·k.ps menkhodur-san-name-standard·k.r menkhodur-san-name-standard.Learnt
menkhodur_san_name_standard_answer κs a x y e f p q = p.0 ∙ sym q.0

pub menkhodur_san_name_standard_out : OnePart menkhodur-san-name-standard·k.ps menkhodur-san-name-standard·k.r
    (λ κs x e. e.1.1.1.0.now) menkhodur-san-name-standard.Learnt
menkhodur_san_name_standard_out κs a x y e f p q = p.1 ∙ sym q.1

pub menkhodur_game_start_answer : OneAnswer menkhodur-game-start·k.ps menkhodur-game-start·k.r menkhodur-game-start.Learnt
menkhodur_game_start_answer κs a x y e f p q = p.0 ∙ sym q.0

pub menkhodur_game_start_ps : OnePart menkhodur-game-start·k.ps menkhodur-game-start·k.r (λ κs x e. e.1.0.now) menkhodur-game-start.Learnt
menkhodur_game_start_ps κs a x y e f p q = p.1 ∙ sym q.1

pub menkhodur_game_make_move_answer : OneAnswer menkhodur-game-make-move·k.ps menkhodur-game-make-move·k.r menkhodur-game-make-move.Learnt
menkhodur_game_make_move_answer κs a x y e f p q = p.0 ∙ sym q.0

pub menkhodur_game_make_move_acts : OnePart menkhodur-game-make-move·k.ps menkhodur-game-make-move·k.r (λ κs x e. e.0.now) menkhodur-game-make-move.Learnt
menkhodur_game_make_move_acts κs a x y e f p q = p.1.0 ∙ sym q.1.0

pub menkhodur_game_make_move_ps : OnePart menkhodur-game-make-move·k.ps menkhodur-game-make-move·k.r (λ κs x e. e.1.0.now) menkhodur-game-make-move.Learnt
menkhodur_game_make_move_ps κs a x y e f p q = p.1.1 ∙ sym q.1.1

pub menkhodur_game_offer_draw_answer : OneAnswer menkhodur-game-offer-draw·k.ps menkhodur-game-offer-draw·k.r menkhodur-game-offer-draw.Learnt
menkhodur_game_offer_draw_answer κs a x y e f p q = p.0 ∙ sym q.0

pub menkhodur_game_offer_draw_acts : OnePart menkhodur-game-offer-draw·k.ps menkhodur-game-offer-draw·k.r
    (λ κs x e. e.0.now) menkhodur-game-offer-draw.Learnt
menkhodur_game_offer_draw_acts κs a x y e f p q = p.1 ∙ sym q.1

pub menkhodur_game_resign_answer : OneAnswer menkhodur-game-resign·k.ps menkhodur-game-resign·k.r menkhodur-game-resign.Learnt
menkhodur_game_resign_answer κs a x y e f p q = p.0 ∙ sym q.0

pub menkhodur_game_resign_acts : OnePart menkhodur-game-resign·k.ps menkhodur-game-resign·k.r (λ κs x e. e.0.now) menkhodur-game-resign.Learnt
menkhodur_game_resign_acts κs a x y e f p q = p.1 ∙ sym q.1

pub menkhodur_game_accept_draw_answer : OneAnswer menkhodur-game-accept-draw·k.ps menkhodur-game-accept-draw·k.r menkhodur-game-accept-draw.Learnt
menkhodur_game_accept_draw_answer κs a x y e f p q = p.0 ∙ sym q.0

pub menkhodur_game_accept_draw_acts : OnePart menkhodur-game-accept-draw·k.ps menkhodur-game-accept-draw·k.r
    (λ κs x e. e.0.now) menkhodur-game-accept-draw.Learnt
menkhodur_game_accept_draw_acts κs a x y e f p q = p.1 ∙ sym q.1

pub menkhodur_game_declare_draw_answer : OneAnswer menkhodur-game-declare-draw·k.ps menkhodur-game-declare-draw·k.r menkhodur-game-declare-draw.Learnt
menkhodur_game_declare_draw_answer κs a x y e f p q = p.0 ∙ sym q.0

pub menkhodur_game_declare_draw_acts : OnePart menkhodur-game-declare-draw·k.ps menkhodur-game-declare-draw·k.r
    (λ κs x e. e.0.now) menkhodur-game-declare-draw.Learnt
menkhodur_game_declare_draw_acts κs a x y e f p q = p.1 ∙ sym q.1

pub menkhodur_game_result_answer : OneAnswer menkhodur-game-result·k.ps menkhodur-game-result·k.r menkhodur-game-result.Learnt
menkhodur_game_result_answer κs a x y e f p q = p ∙ sym q

pub menkhodur_game_can_declare_draw_answer : OneAnswer menkhodur-game-can-declare-draw·k.ps menkhodur-game-can-declare-draw·k.r
    menkhodur-game-can-declare-draw.Learnt
menkhodur_game_can_declare_draw_answer κs a x y e f p q = p ∙ sym q

pub menkhodur_game_can_claim_by_laws_answer : OneAnswer menkhodur-game-can-claim-by-laws·k.ps menkhodur-game-can-claim-by-laws·k.r
    menkhodur-game-can-claim-by-laws.Learnt
menkhodur_game_can_claim_by_laws_answer κs a x y e f p q = p ∙ sym q

pub menkhodur_game_ruling_answer : OneAnswer menkhodur-game-ruling·k.ps menkhodur-game-ruling·k.r menkhodur-game-ruling.Learnt
menkhodur_game_ruling_answer κs a x y e f p q = p ∙ sym q

pub menkhodur_roll_write_answer : OneAnswer menkhodur-roll-write·k.ps menkhodur-roll-write·k.r menkhodur-roll-write.Learnt
menkhodur_roll_write_answer κs a x y e f p q = p.0 ∙ sym q.0

pub menkhodur_roll_write_out : OnePart menkhodur-roll-write·k.ps menkhodur-roll-write·k.r (λ κs x e. e.1.1.1.0.now) menkhodur-roll-write.Learnt
menkhodur_roll_write_out κs a x y e f p q = p.1 ∙ sym q.1

pub menkhodur_roll_read_answer : OneAnswer menkhodur-roll-read·k.ps menkhodur-roll-read·k.r menkhodur-roll-read.Learnt
menkhodur_roll_read_answer κs a x y e f p q = p.0 ∙ sym q.0

pub menkhodur_roll_read_acts : OnePart menkhodur-roll-read·k.ps menkhodur-roll-read·k.r (λ κs x e. e.1.0.now) menkhodur-roll-read.Learnt
menkhodur_roll_read_acts κs a x y e f p q = p.1 ∙ sym q.1

pub menkhodur_roll_read_old_answer : OneAnswer menkhodur-roll-read-old·k.ps menkhodur-roll-read-old·k.r menkhodur-roll-read-old.Learnt
menkhodur_roll_read_old_answer κs a x y e f p q = p.0 ∙ sym q.0

pub menkhodur_roll_read_old_acts : OnePart menkhodur-roll-read-old·k.ps menkhodur-roll-read-old·k.r (λ κs x e. e.1.0.now) menkhodur-roll-read-old.Learnt
menkhodur_roll_read_old_acts κs a x y e f p q = p.1 ∙ sym q.1

pub menkhodur_roll_differences_answer : OneAnswer menkhodur-roll-differences·k.ps menkhodur-roll-differences·k.r menkhodur-roll-differences.Learnt
menkhodur_roll_differences_answer κs a x y e f p q = p.0 ∙ sym q.0

pub menkhodur_roll_differences_out : OnePart menkhodur-roll-differences·k.ps menkhodur-roll-differences·k.r
    (λ κs x e. e.1.1.0.now) menkhodur-roll-differences.Learnt
menkhodur_roll_differences_out κs a x y e f p q = p.1 ∙ sym q.1

pub menkhodur_pgn_check_answer : OneAnswer menkhodur-pgn-check·k.ps menkhodur-pgn-check·k.r menkhodur-pgn-check.Learnt
menkhodur_pgn_check_answer κs a x y e f p q = p ∙ sym q

pub menkhodur_pgn_next_answer : OneAnswer menkhodur-pgn-next·k.ps menkhodur-pgn-next·k.r menkhodur-pgn-next.Learnt
menkhodur_pgn_next_answer κs a x y e f p q = p ∙ sym q

pub menkhodur_game_step_answer : OneAnswer menkhodur-game-step·k.ps menkhodur-game-step·k.r menkhodur-game-step.Learnt
menkhodur_game_step_answer κs a x y e f p q = p.0 ∙ sym q.0

pub menkhodur_game_step_out : OnePart menkhodur-game-step·k.ps menkhodur-game-step·k.r (λ κs x e. e.1.1.1.1.0.now) menkhodur-game-step.Learnt
menkhodur_game_step_out κs a x y e f p q = p.1 ∙ sym q.1

pub menkhodur_play_answer : OneAnswer menkhodur-play·k.ps menkhodur-play·k.r menkhodur-play.Learnt
menkhodur_play_answer κs a x y e f p q = p.0 ∙ sym q.0

pub menkhodur_play_out : OnePart menkhodur-play·k.ps menkhodur-play·k.r (λ κs x e. e.1.1.1.0.now) menkhodur-play.Learnt
menkhodur_play_out κs a x y e f p q = p.1 ∙ sym q.1

pub menkhodur_in_check_answer : OneAnswer menkhodur-in-check·k.ps menkhodur-in-check·k.r menkhodur-in-check.Learnt
menkhodur_in_check_answer κs a x y e f p q = p ∙ sym q

pub menkhodur_legal_list_answer : OneAnswer menkhodur-legal-list·k.ps menkhodur-legal-list·k.r menkhodur-legal-list.Learnt
menkhodur_legal_list_answer κs a x y e f p q = p.0 ∙ sym q.0

pub menkhodur_legal_list_out : OnePart menkhodur-legal-list·k.ps menkhodur-legal-list·k.r (λ κs x e. e.1.0.now) menkhodur-legal-list.Learnt
menkhodur_legal_list_out κs a x y e f p q = p.1 ∙ sym q.1

pub menkhodur_list_judged_answer : OneAnswer menkhodur-list-judged·k.ps menkhodur-list-judged·k.r menkhodur-list-judged.Learnt
menkhodur_list_judged_answer κs a x y e f p q = p ∙ sym q

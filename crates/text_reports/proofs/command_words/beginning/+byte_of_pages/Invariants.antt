use Rattle.text_reports.proofs.command_words.beginning.+byte_of_pages.Given as goal

abbrev pub decreases-byte_of_pages : goal.decreases-byte_of_pages
decreases-byte_of_pages l = l.pages

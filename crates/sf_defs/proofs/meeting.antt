mod MeetingRows
